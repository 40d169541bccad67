-- Where a stack stops, what stands before that begins a module, and with the terminal there none does.
use Rattle.std.proofs.Common.{◌≡◌, ℕ, suc, ◌+◌, ◌≤◌, Bool, true, false, cond, List, [], ◌∷◌, ◌++◌, length, take, append_assoc, append-nil, length-append, Option, Some, None, Result, Ok, Err, refl, sym, ap, subst, ◌∙◌, ◌⊎◌, inl, inr, arith}
use Rattle.std.specs.Prelude.{nat_lt, slice_get}
use Rattle.std.proofs.lemmas.Bool.{lt-ltb, ltb-true, ltb-false}
use Rattle.bx_syntax.specs.declared.terminal.Terminal.{Terminal}
use Rattle.bx_syntax.specs.declared.terminal.Terminal.TheVariants.{Fixed, Name, Bit, Number, Reserved, Symbol as OtherSymbol}
use Rattle.bx_syntax.specs.declared.terminal.Mark.TheVariants.{Module as ModuleWord, Assign as AssignWord}
use Rattle.bx_syntax.specs.declared.stop.Stop.{Stop}
use Rattle.bx_syntax.specs.declared.stop.Stop.TheVariants.{Bad, Deep}
use Rattle.bx_syntax.specs.declared.stop.Wanted.{Wanted}
use Rattle.bx_syntax.specs.declared.stop.Wanted.TheVariants.{Item, Primary, End}
use Rattle.bx_syntax.specs.Parts.{ModuleTree}
use Rattle.bx_syntax.specs.Grammar.{IsModule}
use Rattle.bx_syntax.specs.ReadsModules.{module_at}
use Rattle.bx_syntax.specs.declared.fault.Construct.{Construct}
use Rattle.bx_syntax.specs.Constructs.{construct_of}
use Rattle.bx_syntax.specs.Faults.{Begins, Stops, IsDeep, IsConstruct, IsConstructAt}
use Rattle.bx_syntax.proofs.ReadsModules.{module_reads}
use Rattle.bx_syntax.proofs.ModuleSteps.{module_again, module_wider}
use Rattle.bx_syntax.proofs.Stacks.{Symbol, Stack, start, reply, Reply, takes, nests, passed, stuck, Move, goes, bad, deep, Run, done, unfinished, stopped, end_run, Agrees, answer, move, move_run, run, Leads}
use Rattle.bx_syntax.proofs.Leading.{module_leads}
use Rattle.bx_syntax.proofs.Coming.{IsFine, word, comes, move_fine}
use Rattle.bx_syntax.proofs.Probes.{Tells, tells, assign_probe, bit_probe, end_is}

-- a wider limit

answer_wider : (low high : ℕ) → low ≤ high → (r : Reply) (rest : Stack) (other wide : Move) (next : Stack) → (other ≡ goes next → wide ≡ goes next) → answer low r rest other ≡ goes next → answer high r rest wide ≡ goes next
answer_wider low high le (takes more) rest other wide next h e = e
answer_wider low high le (nests n more) rest other wide next h e = by_room (nat_lt n low) refl e where
  by_room : (b : Bool) → nat_lt n low ≡ b → cond b (goes (more ++ rest)) deep ≡ goes next → cond (nat_lt n high) (goes (more ++ rest)) deep ≡ goes next
  by_room true same e = ap (λ b. cond b (goes (more ++ rest)) deep) (lt-ltb n high (let lt = ltb-true n low same in omega arith)) ∙ e
  by_room false same e = absurd (cc)
answer_wider low high le passed rest other wide next h e = h e
answer_wider low high le (stuck wanted) rest other wide next h e = absurd (cc)

move_wider : (low high : ℕ) → low ≤ high → (stack : Stack) (t : Terminal) (next : Stack) → move low stack t ≡ goes next → move high stack t ≡ goes next
move_wider low high le [] t next e = absurd (cc)
move_wider low high le (x ∷ rest) t next e = answer_wider low high le (reply x t) rest (move low rest t) (move high rest t) next (move_wider low high le rest t next) e

answer_bad : (low high : ℕ) → (r : Reply) (rest : Stack) (other wide : Move) (w : Wanted) → (other ≡ bad w → wide ≡ bad w) → answer low r rest other ≡ bad w → answer high r rest wide ≡ bad w
answer_bad low high (takes more) rest other wide w h e = absurd (cc)
answer_bad low high (nests n more) rest other wide w h e = by_room (nat_lt n low) e where
  by_room : (b : Bool) → cond b (goes (more ++ rest)) deep ≡ bad w → cond (nat_lt n high) (goes (more ++ rest)) deep ≡ bad w
  by_room true e = absurd (cc)
  by_room false e = absurd (cc)
answer_bad low high passed rest other wide w h e = h e
answer_bad low high (stuck wanted) rest other wide w h e = e

move_bad : (low high : ℕ) (stack : Stack) (t : Terminal) (w : Wanted) → move low stack t ≡ bad w → move high stack t ≡ bad w
move_bad low high [] t w e = e
move_bad low high (x ∷ rest) t w e = answer_bad low high (reply x t) rest (move low rest t) (move high rest t) w (move_bad low high rest t w) e

-- what nests too deep would do if more might nest
record Nested (low : ℕ) (stack : Stack) (t : Terminal) : Type 0 where
  pub limit : ℕ
  pub above : low ≤ limit
  pub next : Stack
  pub moves : move limit stack t ≡ goes next

answer_deep : (low : ℕ) (x : Symbol) (rest : Stack) (t : Terminal) (r : Reply) → reply x t ≡ r → (move low rest t ≡ deep → Nested low rest t) → answer low r rest (move low rest t) ≡ deep → Nested low (x ∷ rest) t
answer_deep low x rest t (takes more) same h e = absurd (cc)
answer_deep low x rest t (nests n more) same h e = by_room (nat_lt n low) refl e where
  by_room : (b : Bool) → nat_lt n low ≡ b → cond b (goes (more ++ rest)) deep ≡ deep → Nested low (x ∷ rest) t
  by_room true room e = absurd (cc)
  by_room false room e =
      let least = ltb-false n low room in
      record {
        limit = suc n;
        above = omega arith;
        next = more ++ rest;
        moves = ap (λ r. answer (suc n) r rest (move (suc n) rest t)) same ∙ ap (λ b. cond b (goes (more ++ rest)) deep) (lt-ltb n (suc n) (omega arith));
      }
answer_deep low x rest t passed same h e =
    let inner = h e in
    record { limit = inner.limit; above = inner.above; next = inner.next; moves = ap (λ r. answer inner.limit r rest (move inner.limit rest t)) same ∙ inner.moves }
answer_deep low x rest t (stuck wanted) same h e = absurd (cc)

move_deep : (low : ℕ) (stack : Stack) (t : Terminal) → move low stack t ≡ deep → Nested low stack t
move_deep low [] t e = absurd (cc)
move_deep low (x ∷ rest) t e = answer_deep low x rest t (reply x t) refl (move_deep low rest t) e

-- a list of terminals as far as a stack goes

abbrev Halting : ℕ → Stack → Terminal → List Terminal → Stop → Type 0
Halting limit state t back e = ((w : Wanted) × (move limit state t ≡ bad w) × (e ≡ Bad (suc (length back)) w)) ⊎ ((move limit state t ≡ deep) × (e ≡ Deep (suc (length back))))

pub record Halt (limit : ℕ) (stack : Stack) (ts : List Terminal) (e : Stop) : Type 0 where
  pub front : List Terminal
  pub t : Terminal
  pub back : List Terminal
  pub state : Stack
  pub whole : ts ≡ front ++ t ∷ back
  pub fine : IsFine state
  pub reached : (high : ℕ) → limit ≤ high → (us : List Terminal) → run high stack (front ++ us) ≡ run high state us
  pub stops : Halting limit state t back e

moves_on : (limit : ℕ) (stack : Stack) (t : Terminal) (ts : List Terminal) (m : Move) → move limit stack t ≡ m → run limit stack (t ∷ ts) ≡ move_run limit m (λ next. run limit next ts) (t ∷ ts)
moves_on limit stack t ts m e = ap (λ n. move_run limit n (λ next. run limit next ts) (t ∷ ts)) e

end_is_no_stop : (stack : Stack) (e : Stop) → end_run stack ≡ stopped e → ⊥
end_is_no_stop [] e h = cc
end_is_no_stop (x ∷ rest) e h = cc

stop_is : {d e : Stop} → stopped d ≡ stopped e → d ≡ e
stop_is h = cc

pub halts : (limit : ℕ) (ts : List Terminal) (stack : Stack) (e : Stop) → IsFine stack → run limit stack ts ≡ stopped e → Halt limit stack ts e
halts limit [] stack e f h = absurd (end_is_no_stop stack e h)
halts limit (t ∷ ts) stack e f h = by_move (move limit stack t) refl (sym (moves_on limit stack t ts (move limit stack t) refl) ∙ h) (λ next g. halts limit ts next e g) where
  by_move : (m : Move) → move limit stack t ≡ m → move_run limit m (λ next. run limit next ts) (t ∷ ts) ≡ stopped e → ((next : Stack) → IsFine next → run limit next ts ≡ stopped e → Halt limit next ts e) → Halt limit stack (t ∷ ts) e
  by_move (goes next) same h again =
      let inner = again next (move_fine limit stack t next f same) h in
      record {
        front = t ∷ inner.front;
        t = inner.t;
        back = inner.back;
        state = inner.state;
        whole = ap (λ us. t ∷ us) inner.whole;
        fine = inner.fine;
        reached = λ high le us. moves_on high stack t (inner.front ++ us) (goes next) (move_wider limit high le stack t next same) ∙ inner.reached high le us;
        stops = inner.stops;
      }
  by_move (bad w) same h again =
      record { front = []; t = t; back = ts; state = stack; whole = refl; fine = f; reached = λ high le us. refl; stops = inl (w, same, sym (stop_is h)) }
  by_move deep same h again =
      record { front = []; t = t; back = ts; state = stack; whole = refl; fine = f; reached = λ high le us. refl; stops = inr (same, sym (stop_is h)) }

-- what isn't stopped can be completed
pub completes : (limit : ℕ) (ts : List Terminal) (stack : Stack) → IsFine stack → ((e : Stop) → run limit stack ts ≡ stopped e → ⊥) → (us : List Terminal) × (run limit stack (ts ++ us) ≡ done)
completes limit [] stack f h = (word stack, comes limit stack f)
completes limit (t ∷ ts) stack f h = by_move (move limit stack t) refl (λ next g i. completes limit ts next g i) where
  by_move : (m : Move) → move limit stack t ≡ m → ((next : Stack) → IsFine next → ((e : Stop) → run limit next ts ≡ stopped e → ⊥) → (us : List Terminal) × (run limit next (ts ++ us) ≡ done)) → (us : List Terminal) × (run limit stack (t ∷ (ts ++ us)) ≡ done)
  by_move (goes next) same again =
      let inner = again next (move_fine limit stack t next f same) (λ e i. h e (moves_on limit stack t ts (goes next) same ∙ i)) in
      (inner.0, moves_on limit stack t (ts ++ inner.0) (goes next) same ∙ inner.1)
  by_move (bad w) same again = absurd (h (Bad (suc (length ts)) w) (moves_on limit stack t ts (bad w) same))
  by_move deep same again = absurd (h (Deep (suc (length ts))) (moves_on limit stack t ts deep same))

-- modules

pub start_fine : IsFine start
start_fine = ((λ e. cc), (tt, (inr refl, ((λ e. cc), (tt, tt)))))

pub is_done : (limit : ℕ) (m : ModuleTree) (ts : List Terminal) → IsModule limit m ts → run limit start ts ≡ done
is_done limit m ts is = subst (λ r. Leads limit (λ (x : ModuleTree × List Terminal). x.1) start (λ _. []) ts r) (module_again limit m ts is) (module_leads limit ts)

pub done_is : (limit : ℕ) (ts : List Terminal) → run limit start ts ≡ done → (m : ModuleTree) × IsModule limit m ts
done_is limit ts e = by_read (module_at limit ts) refl (module_leads limit ts) where
  by_read : (r : Result (ModuleTree × List Terminal) Stop) → module_at limit ts ≡ r → Leads limit (λ (x : ModuleTree × List Terminal). x.1) start (λ _. []) ts r → (m : ModuleTree) × IsModule limit m ts
  by_read (Ok x) same h = (x.0, module_reads limit ts x same)
  by_read (Err w) same h = absurd (subst (Agrees w) e h)

pub begins_done : (limit : ℕ) (ts us : List Terminal) → run limit start (ts ++ us) ≡ done → Begins limit ts
begins_done limit ts us e = let found = done_is limit (ts ++ us) e in record { rest = us; tree = found.0; is_module = found.1 }

pub begins_wider : (low high : ℕ) (ts : List Terminal) → low ≤ high → Begins low ts → Begins high ts
begins_wider low high ts le b = record { rest = b.rest; tree = b.tree; is_module = module_wider low high le b.tree (ts ++ b.rest) b.is_module }

-- lists cut where a terminal stands

take_front : (front back : List Terminal) → take (length front) (front ++ back) ≡ front
take_front [] back = refl
take_front (t ∷ front) back = ap (λ us. t ∷ us) (take_front front back)

take_more_front : (front : List Terminal) (t : Terminal) (back : List Terminal) → take (suc (length front)) (front ++ t ∷ back) ≡ front ++ t ∷ []
take_more_front [] t back = refl
take_more_front (u ∷ front) t back = ap (λ us. u ∷ us) (take_more_front front t back)

get_front : (front : List Terminal) (t : Terminal) (back : List Terminal) → slice_get (front ++ t ∷ back) (length front) ≡ Some t
get_front [] t back = refl
get_front (u ∷ front) t back = get_front front t back

take_all_of : (ts : List Terminal) → take (length ts) ts ≡ ts
take_all_of [] = refl
take_all_of (t ∷ ts) = ap (λ us. t ∷ us) (take_all_of ts)

get_none : (ts : List Terminal) → slice_get ts (length ts) ≡ None
get_none [] = refl
get_none (t ∷ ts) = get_none ts

one_behind : (front : List Terminal) (t : Terminal) (us : List Terminal) → (front ++ t ∷ []) ++ us ≡ front ++ t ∷ us
one_behind front t us = append_assoc front (t ∷ []) us

-- what the first bad place says of what stands there
pub record Found (limit : ℕ) (ts : List Terminal) (e : Stop) : Type 0 where
  pub k : ℕ
  pub stops : Stops limit ts k
  pub kind : ((left : ℕ) × (w : Wanted) × (e ≡ Bad left w) × (left + k ≡ length ts) × (IsDeep ts k → ⊥) × ((c : Construct) → (IsConstructAt limit ts k c → (t : Terminal) × (slice_get ts k ≡ Some t) × (construct_of w t ≡ Some c)) × ((t : Terminal) → slice_get ts k ≡ Some t → construct_of w t ≡ Some c → IsConstructAt limit ts k c)))
      ⊎ ((left : ℕ) × (e ≡ Deep left) × (left + k ≡ length ts) × IsDeep ts k)

done_is_no_stop : (e : Stop) → done ≡ stopped e → ⊥
done_is_no_stop e h = cc

none_is_some : {t : Terminal} → ◌≡◌ {A = Option Terminal} None (Some t) → ⊥
none_is_some h = cc

pub same_some : {A : Type 0} {a b : A} → ◌≡◌ {A = Option A} (Some a) (Some b) → a ≡ b
same_some h = cc

-- where reading stops at the end
unfinished_found : (limit : ℕ) (ts : List Terminal) (w : Wanted) → run limit start ts ≡ unfinished → Found limit ts (Bad 0 w)
unfinished_found limit ts w e =
    let more = completes limit ts start start_fine (λ d h. never d (sym e ∙ h)) in
    record {
      k = length ts;
      stops = record {
        within = omega arith;
        begins = subst (λ (us : List Terminal). Begins limit us) (sym (take_all_of ts)) (begins_done limit ts more.0 more.1);
        bad = λ less b. absurd (omega arith);
        ended = λ same m is. unfinished_is_not_done (sym e ∙ is_done limit m ts is);
      };
      kind = inl (
        0,
        w,
        refl,
        omega arith,
        (λ d. absurd (let less = d.0 in omega arith)),
        (λ c. (
          (λ at. absurd (none_is_some (sym (get_none ts) ∙ at.1))),
          (λ t at is. absurd (none_is_some (sym (get_none ts) ∙ at))),
        )),
      );
    } where
      never : (d : Stop) → unfinished ≡ stopped d → ⊥
      never d h = cc

      unfinished_is_not_done : unfinished ≡ done → ⊥
      unfinished_is_not_done h = cc

module _ (limit : ℕ) (ts : List Terminal) (e : Stop) (h : Halt limit start ts e) where
  room : length ts ≡ length h.front + suc (length h.back)
  room = ap length h.whole ∙ length-append h.front (h.t ∷ h.back)

  front_is : take (length h.front) ts ≡ h.front
  front_is = ap (take (length h.front)) h.whole ∙ take_front h.front (h.t ∷ h.back)

  front_more : take (length h.front + 1) ts ≡ h.front ++ h.t ∷ []
  front_more =
      let one : length h.front + 1 ≡ suc (length h.front) = omega arith in
      ap (λ n. take n ts) one ∙ ap (take (suc (length h.front))) h.whole ∙ take_more_front h.front h.t h.back

  terminal_is : slice_get ts (length h.front) ≡ Some h.t
  terminal_is = ap (λ us. slice_get us (length h.front)) h.whole ∙ get_front h.front h.t h.back

  -- the front and a terminal that does begin a module
  goes_begins : (high : ℕ) → limit ≤ high → (u : Terminal) (next : Stack) → move high h.state u ≡ goes next → Begins high (h.front ++ u ∷ [])
  goes_begins high le u next m =
      begins_done high (h.front ++ u ∷ []) (word next)
      (ap (run high start) (one_behind h.front u (word next)) ∙ h.reached high le (u ∷ word next) ∙ moves_on high h.state u (word next) (goes next) m ∙ comes high next (move_fine high h.state u next h.fine m))

  -- the front and a terminal that is stuck begins none
  stuck_begins : (high : ℕ) → limit ≤ high → (u : Terminal) (w : Wanted) → move high h.state u ≡ bad w → Begins high (h.front ++ u ∷ []) → ⊥
  stuck_begins high le u w m b =
      done_is_no_stop (Bad (suc (length b.rest)) w)
      (sym (is_done high b.tree ((h.front ++ u ∷ []) ++ b.rest) b.is_module) ∙ ap (run high start) (one_behind h.front u b.rest) ∙ h.reached high le (u ∷ b.rest) ∙ moves_on high h.state u b.rest (bad w) m)

  deep_begins : (u : Terminal) → move limit h.state u ≡ deep → Begins limit (h.front ++ u ∷ []) → ⊥
  deep_begins u m b =
      done_is_no_stop (Deep (suc (length b.rest)))
      (sym (is_done limit b.tree ((h.front ++ u ∷ []) ++ b.rest) b.is_module) ∙ ap (run limit start) (one_behind h.front u b.rest) ∙ h.reached limit (omega arith) (u ∷ b.rest) ∙ moves_on limit h.state u b.rest deep m)

  not_begun : Halting limit h.state h.t h.back e → Begins limit (h.front ++ h.t ∷ []) → ⊥
  not_begun (inl (w, m, same)) b = stuck_begins limit (omega arith) h.t w m b
  not_begun (inr (m, same)) b = deep_begins h.t m b

  front_begins : Begins limit h.front
  front_begins = begins_done limit h.front (word h.state) (h.reached limit (omega arith) (word h.state) ∙ comes limit h.state h.fine)

  halt_stops : Stops limit ts (length h.front)
  halt_stops = record {
    within = omega (arith, room);
    begins = subst (λ (us : List Terminal). Begins limit us) (sym front_is) front_begins;
    bad = λ less b. not_begun h.stops (subst (λ (us : List Terminal). Begins limit us) front_more b);
    ended = λ same m is. absurd (omega (arith, room, same));
  }

  -- a module that ends here has nothing to come
  front_whole : (m : ModuleTree) → IsModule limit m h.front → h.state ≡ []
  front_whole m is = by_state h.state (sym (h.reached limit (omega arith) []) ∙ ap (run limit start) (append-nil h.front) ∙ is_done limit m h.front is) where
    by_state : (state : Stack) → end_run state ≡ done → state ≡ []
    by_state [] e = refl
    by_state (x ∷ rest) e = absurd (cc)

  whole_front : h.state ≡ [] → (m : ModuleTree) × IsModule limit m h.front
  whole_front none =
      done_is limit h.front (ap (run limit start) (sym (append-nil h.front)) ∙ h.reached limit (omega arith) [] ∙ ap end_run none)

  not_deep : (w : Wanted) → move limit h.state h.t ≡ bad w → IsDeep ts (length h.front) → ⊥
  not_deep w m (less, (high, b)) =
      stuck_begins (limit + high) (omega arith) h.t w (move_bad limit (limit + high) h.state h.t w m)
      (subst (λ (us : List Terminal). Begins (limit + high) us) front_more (begins_wider high (limit + high) (take (length h.front + 1) ts) (omega arith) b))

  is_deep : move limit h.state h.t ≡ deep → IsDeep ts (length h.front)
  is_deep m =
      let n = move_deep limit h.state h.t m in
      (omega (arith, room), (n.limit, subst (λ (us : List Terminal). Begins n.limit us) (sym front_more) (goes_begins n.limit n.above h.t n.next n.moves)))

  -- what is a construct there is what the wanted thing says
  construct_there : (w : Wanted) → move limit h.state h.t ≡ bad w → (t : Terminal) → h.t ≡ t → (c : Construct) → IsConstruct limit h.front t c → construct_of w t ≡ Some c
  construct_there w m (OtherSymbol b) same c is = is
  construct_there w m Reserved same c is = ap Some (sym is)
  construct_there w m (Name n) same c is = by_wanted (tells limit (Fixed AssignWord) Item assign_probe h.state h.t w h.fine m) where
    by_wanted : Tells limit (Fixed AssignWord) Item h.state w → construct_of w (Name n) ≡ Some c
    by_wanted (inl (want, next)) = ap (λ v. construct_of v (Name n)) want ∙ ap Some (sym is.0)
    by_wanted (inr (other, held)) = absurd (stuck_begins limit (omega arith) (Fixed AssignWord) w held is.1)
  construct_there w m Number same c is = by_wanted (tells limit (Bit false) Primary bit_probe h.state h.t w h.fine m) where
    by_wanted : Tells limit (Bit false) Primary h.state w → construct_of w Number ≡ Some c
    by_wanted (inl (want, next)) = ap (λ v. construct_of v Number) want ∙ ap Some (sym is.0)
    by_wanted (inr (other, held)) = absurd (stuck_begins limit (omega arith) (Bit false) w held is.1)
  construct_there w m (Fixed ModuleWord) same c is =
      let none = front_whole is.1.0 is.1.1 in
      let end : w ≡ End = wanted_end (sym (ap (λ (state : Stack). move limit state h.t) none) ∙ m) in
      ap (λ v. construct_of v (Fixed ModuleWord)) end ∙ ap Some (sym is.0) where
        wanted_end : bad End ≡ bad w → w ≡ End
        wanted_end e = cc
  construct_there w m (Fixed _) same c is = absurd is
  construct_there w m _ same c is = absurd is

  there_construct : (w : Wanted) → move limit h.state h.t ≡ bad w → (t : Terminal) → h.t ≡ t → (c : Construct) → construct_of w t ≡ Some c → IsConstruct limit h.front t c
  there_construct w m (OtherSymbol b) same c is = is
  there_construct w m Reserved same c is = sym (same_some is)
  there_construct Item m (Name n) same c is = (sym (same_some is), by_wanted (tells limit (Fixed AssignWord) Item assign_probe h.state h.t Item h.fine m)) where
    by_wanted : Tells limit (Fixed AssignWord) Item h.state Item → Begins limit (h.front ++ Fixed AssignWord ∷ [])
    by_wanted (inl (want, (next, moves))) = goes_begins limit (omega arith) (Fixed AssignWord) next moves
    by_wanted (inr (other, held)) = absurd (other refl)
  there_construct Primary m Number same c is = (sym (same_some is), by_wanted (tells limit (Bit false) Primary bit_probe h.state h.t Primary h.fine m)) where
    by_wanted : Tells limit (Bit false) Primary h.state Primary → Begins limit (h.front ++ Bit false ∷ [])
    by_wanted (inl (want, (next, moves))) = goes_begins limit (omega arith) (Bit false) next moves
    by_wanted (inr (other, held)) = absurd (other refl)
  there_construct End m (Fixed ModuleWord) same c is = (sym (same_some is), whole_front (end_is limit h.state h.t h.fine m))
  there_construct w m t same c is = absurd (cc)

  constructs : (w : Wanted) → move limit h.state h.t ≡ bad w → (c : Construct) →
      (IsConstructAt limit ts (length h.front) c → (t : Terminal) × (slice_get ts (length h.front) ≡ Some t) × (construct_of w t ≡ Some c))
      × ((t : Terminal) → slice_get ts (length h.front) ≡ Some t → construct_of w t ≡ Some c → IsConstructAt limit ts (length h.front) c)
  constructs w m c = (
    (λ at. (at.0, at.1, construct_there w m at.0 (same_some (sym terminal_is ∙ at.1)) c (subst (λ (us : List Terminal). IsConstruct limit us at.0 c) front_is at.2))),
    (λ t at is. (t, at, subst (λ (us : List Terminal). IsConstruct limit us t c) (sym front_is) (there_construct w m t (same_some (sym terminal_is ∙ at)) c is))),
  )

  halt_kind : Halting limit h.state h.t h.back e → Found limit ts e
  halt_kind (inl (w, m, same)) = record { k = length h.front; stops = halt_stops; kind = inl (suc (length h.back), w, same, omega (arith, room), not_deep w m, constructs w m) }
  halt_kind (inr (m, same)) = record { k = length h.front; stops = halt_stops; kind = inr (suc (length h.back), same, omega (arith, room), is_deep m) }

  pub halt_found : Found limit ts e
  halt_found = halt_kind h.stops

-- Where reading a module stops is the first bad place.
pub found : (limit : ℕ) (ts : List Terminal) (e : Stop) → module_at limit ts ≡ Err e → Found limit ts e
found limit ts e h = by_run (run limit start ts) refl (subst (λ (r : Result (ModuleTree × List Terminal) Stop). Leads limit (λ (x : ModuleTree × List Terminal). x.1) start (λ _. []) ts r) h (module_leads limit ts)) where
  by_run : (r : Run) → run limit start ts ≡ r → Agrees e r → Found limit ts e
  by_run done same a = absurd a
  by_run unfinished same (w, a) = subst (λ (d : Stop). Found limit ts d) (sym a) (unfinished_found limit ts w same)
  by_run (stopped f) same a = subst (λ (d : Stop). Found limit ts d) (sym a) (halt_found limit ts f (halts limit ts start f start_fine same))
