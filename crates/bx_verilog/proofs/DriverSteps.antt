-- The drivers of a module's nets, one write at a time.
use Rattle.std.proofs.Common.{◌≡◌, ◌≢◌, ℕ, suc, ◌+◌, ◌<◌, ◌≤◌, Bool, true, false, not, cond, ◌||◌, List, [], ◌∷◌, ◌++◌, length, append_assoc, get_or, set, take, drop, map, flat_map, Option, Some, None, Result, Ok, Err, OnOk, Vec, Global, add-one, drop-cons, refl, sym, ap, ◌∙◌, subst, arith}
use Rattle.std.specs.Prelude.{if◌then◌else◌, position}
use Rattle.std.specs.List.{AllByRecursion, list_any, position_from}
use Rattle.std.specs.Option.{option_or}
use Rattle.std.specs.Str.{bytes_eq}
use Rattle.std.proofs.lemmas.Bool.{false_from_ne_true}
use Rattle.std.proofs.lemmas.List.{append-nil, length-map, map-append, take_more, drop_all, take-append-drop}
use Rattle.std.proofs.lemmas.Grind.{flat_map-append}
use Rattle.std.proofs.lemmas.Iterator.Adapters.{position_from-zero}
use Rattle.std.proofs.lemmas.List.Folds.{list_any-append}
use Rattle.bx_logic.specs.declared.memory.NoMemory.{NoMemory}
use Rattle.bx_logic.specs.declared.driver.Driver.{Driver}
use Rattle.bx_logic.specs.declared.driver.Driver.TheVariants.{Input, Constant, Gate}
use Rattle.bx_logic.specs.Lists.{AreDistinct}
use Rattle.bx_syntax.specs.declared.tree.Part.{Part}
use Rattle.bx_syntax.specs.Parts.{part, parts, ModuleTree}
use Rattle.bx_syntax.specs.Trees.{tree}
use Rattle.bx_verilog.specs.declared.drivers.Drive.{Drive as Found}
use Rattle.bx_verilog.specs.declared.drivers.NetDrivers.{NetDrivers}
use Rattle.bx_verilog.specs.Formulas.{Text, formula}
use Rattle.bx_verilog.specs.Drives.{Drive, drives_of, drives}
use Rattle.bx_verilog.specs.Mentions.{names as names_of, number, inputs as inputs_of}
use Rattle.bx_verilog.specs.Elaboration.{inner_size, all_own, net_numbers, all_own_drivers, inner_drivers, gate_of, chosen, driver_of, name_count}
use Rattle.bx_verilog.specs.Shown.{number_among}
use Rattle.bx_verilog.specs.Lowering.{AreLowered, shown_drive, driver_among, AreDrivers, AreDriversToo, HaveArguments, part_drives, item_drives}
use Rattle.bx_verilog.proofs.Firsts.{same_texts, same_bytes, other_texts}
use Rattle.bx_verilog.proofs.Lowering.{all_lowered_length}
use Rattle.bx_verilog.proofs.OwnNets.{inner_size-append, length-inner_drivers}
use Rattle.bx_logic.proofs.Members.{Member-from_get_or, Member-flat_map, AllByRecursion-from_member, member_of_AllByRecursion}

-- Lists that are maps.
map_same : {X Y : Type 0} (F G : X → Y) → ((x : X) → F x ≡ G x) → (xs : List X) → map F xs ≡ map G xs
map_same F G h [] = refl
map_same F G h (x ∷ xs) = λ i. h x i ∷ map_same F G h xs i

pub map_more : {X Y : Type 0} (F : X → Y) (xs : List X) (k : ℕ) (x : X) → k < length xs → map F (take (k + 1) xs) ≡ map F (take k xs) ++ F (get_or xs k x) ∷ []
map_more F xs k x h = ap (map F) (take_more xs k x h) ∙ map-append F (take k xs) (get_or xs k x ∷ [])

-- the same for each, however long the list is so far
pub map_constant_more : {X Y : Type 0} (y : Y) (xs : List X) (k : ℕ) → k < length xs → map (λ x. y) (take (k + 1) xs) ≡ map (λ x. y) (take k xs) ++ y ∷ []
map_constant_more y [] k h = absurd (omega arith)
map_constant_more y (x ∷ xs) k h = map_more (λ z. y) (x ∷ xs) k x h

-- A driver for one name.
not_same : (a b : Text) → a ≢ b → bytes_eq a b ≡ false
not_same a b h = false_from_ne_true (bytes_eq a b) (λ e. h (same_texts a b e))

abbrev put : (Text → Driver) → Text → Driver → Text → Driver
put F t g n = if bytes_eq n t then g else F n

untouched : (F : Text → Driver) (t x : Text) (g : Driver) (xs : List Text) → t ≡ x → AllByRecursion (λ y. y ≢ x) xs → map F xs ≡ map (put F t g) xs
untouched F t x g [] e h = refl
untouched F t x g (y ∷ ys) e h =
    let other : bytes_eq y t ≡ false = not_same y t (λ s. h.0 (s ∙ e)) in
    λ i. (ap (λ b. if b then g else F y) (sym other)) i ∷ untouched F t x g ys e h.1 i

set_named_at : (F : Text → Driver) (t x : Text) (g : Driver) (xs : List Text) (b : Bool) → bytes_eq t x ≡ b → AllByRecursion (λ y. y ≢ x) xs → set (map F xs) (number_among xs t) g ≡ map (put F t g) xs →
    set (F x ∷ map F xs) (cond (not b) (1 + number_among xs t) 0) g ≡ put F t g x ∷ map (put F t g) xs
set_named_at F t x g xs true e others rest =
    let same : t ≡ x = same_texts t x e in
    λ i. ap (λ b. if b then g else F x) (sym (same_bytes x t (sym same))) i ∷ untouched F t x g xs same others i
set_named_at F t x g xs false e others rest =
    let other : bytes_eq x t ≡ false = not_same x t (λ s. other_texts t x e (sym s)) in
    let more : 1 + number_among xs t ≡ suc (number_among xs t) = omega arith in
    ap (λ k. set (F x ∷ map F xs) k g) more ∙ (λ i. ap (λ b. if b then g else F x) (sym other) i ∷ rest i)

pub set_named : (F : Text → Driver) (t : Text) (g : Driver) (names : List Text) → AreDistinct names → set (map F names) (number_among names t) g ≡ map (put F t g) names
set_named F t g [] h = refl
set_named F t g (x ∷ xs) h = set_named_at F t x g xs (bytes_eq t x) refl h.0 (set_named F t g xs h.1)

-- One driver for several names.
abbrev put_all : (Text → Driver) → List Text → Driver → Text → Driver
put_all F ts g n = if list_any (bytes_eq n) ts then g else F n

twice : (a b : Bool) (g f : Driver) → (if b then g else (if a then g else f)) ≡ (if (a || (b || false)) then g else f)
twice true true g f = refl
twice true false g f = refl
twice false true g f = refl
twice false false g f = refl

put_all-push : (F : Text → Driver) (ts : List Text) (t : Text) (g : Driver) (n : Text) → put (put_all F ts g) t g n ≡ put_all F (ts ++ t ∷ []) g n
put_all-push F ts t g n = twice (list_any (bytes_eq n) ts) (bytes_eq n t) g (F n) ∙ ap (λ b. if b then g else F n) (sym (list_any-append (bytes_eq n) ts (t ∷ [])))

pub target_set : (names : List Text) (F : Text → Driver) (ts : List Text) (k : ℕ) (t : Text) (g h : Driver) (before after : List Driver) → AreDistinct names → k < length ts → t ≡ get_or ts k t → h ≡ g →
    before ≡ map (put_all F (take k ts) g) names → after ≡ set before (number_among names t) h → after ≡ map (put_all F (take (k + 1) ts) g) names
target_set names F ts k t g h before after d l is same b a =
    a ∙ ((λ i. set (b i) (number_among names t) (same i)) ∙ (set_named (put_all F (take k ts) g) t g names d
    ∙ (map_same (put (put_all F (take k ts) g) t g) (put_all F (take k ts ++ t ∷ []) g) (put_all-push F (take k ts) t g) names
    ∙ ap (λ us. map (put_all F us g) names) (ap (λ u. take k ts ++ u ∷ []) is ∙ sym (take_more ts k t l)))))

-- Drives one behind the other.
option_or-assoc : (a b c : Option Driver) → option_or (option_or a b) c ≡ option_or a (option_or b c)
option_or-assoc None b c = refl
option_or-assoc (Some x) b c = refl

option_or-none : (a : Option Driver) → option_or a None ≡ a
option_or-none None = refl
option_or-none (Some x) = refl

abbrev gate_if : (Text → ℕ) → ℕ → Drive → Text → Option Driver
gate_if numbered next d n = if list_any (bytes_eq n) d.targets then Some (Gate d.op (net_numbers numbered next d.arguments)) else None

gate_of-push : (numbered : Text → ℕ) (first next : ℕ) (ds : List Drive) (d : Drive) (n : Text) → next ≡ first + inner_size ds →
    gate_of numbered first (ds ++ d ∷ []) n ≡ option_or (gate_if numbered next d n) (gate_of numbered first ds n)
gate_of-push numbered first next [] d n e = ap (λ k. gate_if numbered k d n) (omega arith) ∙ sym (option_or-none (gate_if numbered next d n))
gate_of-push numbered first next (c ∷ ds) d n e =
    ap (λ o. option_or o (gate_if numbered first c n)) (gate_of-push numbered (first + all_own c.arguments) next ds d n (omega arith))
    ∙ option_or-assoc (gate_if numbered next d n) (gate_of numbered (first + all_own c.arguments) ds n) (gate_if numbered first c n)

inner-push : (numbered : Text → ℕ) (first next : ℕ) (ds : List Drive) (d : Drive) → next ≡ first + inner_size ds →
    inner_drivers numbered first (ds ++ d ∷ []) ≡ inner_drivers numbered first ds ++ all_own_drivers numbered next d.arguments
inner-push numbered first next [] d e = append-nil (all_own_drivers numbered first d.arguments) ∙ ap (λ k. all_own_drivers numbered k d.arguments) (omega arith)
inner-push numbered first next (c ∷ ds) d e =
    ap (λ xs. all_own_drivers numbered first c.arguments ++ xs) (inner-push numbered (first + all_own c.arguments) next ds d (omega arith))
    ∙ sym (append_assoc (all_own_drivers numbered first c.arguments) (inner_drivers numbered (first + all_own c.arguments) ds) (all_own_drivers numbered next d.arguments))

chosen_or : (b : Bool) (g : Driver) (o : Option Driver) (p : Option ℕ) → (if b then g else chosen o p) ≡ chosen (option_or (if b then Some g else None) o) p
chosen_or true g o p = refl
chosen_or false g o p = refl

-- What one drive adds.
drive_named : (names inputs : List Text) (ds : List Drive) (d : Drive) (next : ℕ) (nets : List ℕ) (n : Text) → next ≡ length names + inner_size ds → nets ≡ net_numbers (number_among names) next d.arguments →
    put_all (driver_among names inputs ds) d.targets (Gate d.op nets) n ≡ driver_among names inputs (ds ++ d ∷ []) n
drive_named names inputs ds d next nets n e is =
    let N = number_among names in
    ap (λ ns. if list_any (bytes_eq n) d.targets then Gate d.op ns else driver_among names inputs ds n) is
    ∙ (chosen_or (list_any (bytes_eq n) d.targets) (Gate d.op (net_numbers N next d.arguments)) (gate_of N (length names) ds n) (position (bytes_eq n) inputs)
    ∙ ap (λ o. chosen o (position (bytes_eq n) inputs)) (sym (gate_of-push N (length names) next ds d n e)))

drive_step : (names : List Text) (d : Drive) (before after : NetDrivers) (nets : List ℕ) → AreLowered names before.inner.items after.inner.items d.arguments nets →
    ((F : Text → Driver) → before.named.items ≡ map F names → after.named.items ≡ map (put_all F d.targets (Gate d.op nets)) names) → AreDriversToo names (d ∷ []) before after
drive_step names d before after nets low named = record {
  count = omega (arith, all_lowered_length names before.inner.items after.inner.items d.arguments nets low);
  drivers = λ inputs ds h.
      let N = number_among names in
      let next = length names + length before.inner.items in
      let e : next ≡ length names + inner_size ds = omega (arith, ap length h.inner, length-inner_drivers N (length names) ds) in
      record {
        named = named (driver_among names inputs ds) h.named
            ∙ map_same (put_all (driver_among names inputs ds) d.targets (Gate d.op nets)) (driver_among names inputs (ds ++ d ∷ [])) (λ n. drive_named names inputs ds d next nets n e low.numbers) names;
        inner = low.drivers ∙ (ap (λ xs. xs ++ all_own_drivers N next d.arguments) h.inner ∙ sym (inner-push N (length names) next ds d e));
      };
}

pub drive_result : (r : Result (Unit {0}) NoMemory) (names : List Text) (d : Drive) (before after : NetDrivers) (nets : List ℕ) → AreLowered names before.inner.items after.inner.items d.arguments nets →
    OnOk r ((F : Text → Driver) → before.named.items ≡ map F names → after.named.items ≡ map (put_all F d.targets (Gate d.op nets)) names) → OnOk r (AreDriversToo names (d ∷ []) before after)
drive_result (Ok x) names d before after nets low h = drive_step names d before after nets low h
drive_result (Err e) names d before after nets low h = tt

-- What several add, one behind the other.
pub too_none : (names : List Text) (all : NetDrivers) → AreDriversToo names [] all all
too_none names all = record {
  count = omega arith;
  drivers = λ inputs ds h. subst (λ es. AreDrivers names inputs es all) (sym (append-nil ds)) h;
}

too_append : (names : List Text) (xs ys : List Drive) (a b c : NetDrivers) → AreDriversToo names xs a b → AreDriversToo names ys b c → AreDriversToo names (xs ++ ys) a c
too_append names xs ys a b c h k = record {
  count = omega (arith, h.count, k.count, inner_size-append xs ys);
  drivers = λ inputs ds s. subst (λ es. AreDrivers names inputs es c) (append_assoc ds xs ys) (k.drivers inputs (ds ++ xs) (h.drivers inputs ds s));
}

module _ {X : Type 0} (f : X → List Drive) where
  gathered : (xs : List X) (k : ℕ) (x : X) → k < length xs → x ≡ get_or xs k x → flat_map f (take (k + 1) xs) ≡ flat_map f (take k xs) ++ f x
  gathered xs k x l is =
      ap (flat_map f) (take_more xs k x l) ∙ (flat_map-append f (take k xs) (get_or xs k x ∷ []) ∙ ap (λ y. flat_map f (take k xs) ++ y) (append-nil (f (get_or xs k x)) ∙ ap f (sym is)))

  pub gathered_more : (names : List Text) (xs : List X) (k : ℕ) (x : X) (a b c : NetDrivers) → k < length xs → x ≡ get_or xs k x →
      AreDriversToo names (flat_map f (take k xs)) a b → AreDriversToo names (f x) b c → AreDriversToo names (flat_map f (take (k + 1) xs)) a c
  gathered_more names xs k x a b c l is h m =
      subst (λ ds. AreDriversToo names ds a c) (sym (gathered xs k x l is)) (too_append names (flat_map f (take k xs)) (f x) a b c h m)

  pub gathered_fits : (xs : List X) (k : ℕ) (x : X) → k < length xs → x ≡ get_or xs k x → inner_size (flat_map f (take k xs)) + inner_size (f x) ≤ inner_size (flat_map f xs)
  gathered_fits xs k x l is =
      omega (
        arith,
        ap inner_size (gathered xs k x l is),
        inner_size-append (flat_map f (take k xs)) (f x),
        ap (λ ys. inner_size (flat_map f ys)) (take-append-drop (k + 1) xs),
        ap inner_size (flat_map-append f (take (k + 1) xs) (drop (k + 1) xs)),
        inner_size-append (flat_map f (take (k + 1) xs)) (flat_map f (drop (k + 1) xs)),
      )

  pub gathered_each : (xs : List X) (k : ℕ) (x : X) → k < length xs → x ≡ get_or xs k x → HaveArguments (flat_map f xs) → HaveArguments (f x)
  gathered_each xs k x l is h =
      AllByRecursion-from_member (λ (d : Drive). 0 < length d.arguments) (f x) (λ d m.
      member_of_AllByRecursion (λ (e : Drive). 0 < length e.arguments) d (flat_map f xs) h (Member-flat_map f x d xs (Member-from_get_or x xs k l (sym is)) m))

-- Where a part drives by one drive.
pub one_drive_has : (ds : List Drive) (d : Found) → ds ≡ shown_drive d ∷ [] → HaveArguments ds → 0 < length d.arguments.now
one_drive_has ds d e h =
    let some : HaveArguments (shown_drive d ∷ []) = subst HaveArguments e h in
    omega (arith, some.0, length-map (map tree d.arguments.now) formula, length-map d.arguments.now tree)

pub one_drive_size : (ds : List Drive) (d : Found) → ds ≡ shown_drive d ∷ [] → inner_size ds ≡ all_own (map formula (map tree d.arguments.now))
one_drive_size ds d e = omega (arith, ap inner_size e)

-- What the items of a module drive is what the module's parts do.
parts-drives : (ps : List Part) → flat_map part_drives ps ≡ flat_map drives_of (map part ps)
parts-drives [] = refl
parts-drives (p ∷ ps) = ap (λ ds. part_drives p ++ ds) (parts-drives ps)

items-drives : (items : List (Vec Part Global)) → flat_map item_drives items ≡ flat_map drives_of (flat_map (λ item. item) (map parts items))
items-drives [] = refl
items-drives (v ∷ vs) =
    (λ i. parts-drives v.items i ++ items-drives vs i) ∙ sym (flat_map-append drives_of (parts v) (flat_map (λ item. item) (map parts vs)))

pub module-drives : (m : ModuleTree) (items : List (Vec Part Global)) → map parts items ≡ m.items → flat_map item_drives items ≡ drives m
module-drives m items e = items-drives items ∙ ap (λ xs. flat_map drives_of (flat_map (λ item. item) xs)) e

-- The inputs, from the last to the first.
abbrev pub input_from : ℕ → List Text → Text → Driver
input_from i inputs n = chosen None (position_from (bytes_eq n) i (drop i inputs))

one_input : (b : Bool) (i : ℕ) (p : Option ℕ) → (if b then Input i else chosen None p) ≡ chosen None (cond b (Some i) p)
one_input true i p = refl
one_input false i p = refl

pub input_set : (names inputs : List Text) (i : ℕ) (t : Text) (before after : List Driver) → AreDistinct names → i < length inputs → t ≡ get_or inputs i t →
    before ≡ map (input_from (i + 1) inputs) names → after ≡ set before (number_among names t) (Input i) → after ≡ map (input_from i inputs) names
input_set names inputs i t before after d l is b a =
    let e : drop i inputs ≡ t ∷ drop (i + 1) inputs = drop-cons inputs i t l ∙ (λ j. sym is j ∷ drop (sym (add-one i) j) inputs) in
    a ∙ (ap (λ xs. set xs (number_among names t) (Input i)) b ∙ (set_named (input_from (i + 1) inputs) t (Input i) names d
    ∙ map_same (put (input_from (i + 1) inputs) t (Input i)) (input_from i inputs)
    (λ n. one_input (bytes_eq n t) i (position_from (bytes_eq n) (i + 1) (drop (i + 1) inputs)) ∙ ap (λ xs. chosen None (position_from (bytes_eq n) i xs)) (sym e)) names))

pub inputs_none : (names inputs : List Text) (i : ℕ) → i ≡ length inputs → map (λ n. Constant false) names ≡ map (input_from i inputs) names
inputs_none names inputs i e =
    map_same (λ n. Constant false) (input_from i inputs) (λ n. ap (λ xs. chosen None (position_from (bytes_eq n) i xs)) (sym (drop_all i inputs (omega arith)))) names

pub inputs_all : (names inputs : List Text) → map (input_from 0 inputs) names ≡ map (λ n. chosen None (position (bytes_eq n) inputs)) names
inputs_all names inputs =
    map_same (input_from 0 inputs) (λ n. chosen None (position (bytes_eq n) inputs)) (λ n. ap (chosen None) (sym (position_from-zero (bytes_eq n) inputs))) names

-- What drives the nets of a module.
pub module_drivers : (m : ModuleTree) (all : NetDrivers) (names inputs : List Text) (ds : List Drive) → names ≡ names_of m → inputs ≡ inputs_of m → ds ≡ drives m → AreDrivers names inputs ds all →
    all.named.items ++ all.inner.items ≡ map (driver_of m) (names_of m) ++ inner_drivers (number m) (name_count m) (drives m)
module_drivers m all names inputs ds a b d h =
    (λ i. h.named i ++ h.inner i) ∙ (λ i. map (driver_among (a i) (b i) (d i)) (a i) ++ inner_drivers (number_among (a i)) (length (a i)) (d i))
