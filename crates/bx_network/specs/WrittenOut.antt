-- A test of lists of nodes and edges that only networks pass, and that is computed where the lists are written
-- out.
use Rattle.std.specs.Prelude.{ℕ, zero, suc, ◌+◌, ◌<◌, ◌==◌, ◌&&◌, ◌||◌, nat_lt, not, Bool, true, false, List, [], ◌∷◌, length}
use Rattle.bx_forms.specs.declared.kind.Kind.{Kind}
use Rattle.bx_forms.specs.declared.kind.Kind.TheVariants.{Input, Output}
use Rattle.bx_forms.specs.Kinds.{operands, slots}
use Rattle.bx_network.specs.declared.node.Node.{Node}
use Rattle.bx_network.specs.declared.node.Edge.{Edge}
use Rattle.bx_network.specs.Networks.{network_of, fan_out, fan_in, is_output, output_count, one_if}

-- each item passes, and some item does
abbrev pub each_passes : {X : Type 0} → (X → Bool) → List X → Bool
each_passes p [] = true
each_passes p (x ∷ xs) = p x && each_passes p xs

abbrev pub some_passes : {X : Type 0} → (X → Bool) → List X → Bool
some_passes p [] = false
some_passes p (x ∷ xs) = p x || some_passes p xs

-- each item passes with each that follows it
abbrev pub each_pair_passes : {X : Type 0} → (X → X → Bool) → List X → Bool
each_pair_passes p [] = true
each_pair_passes p (x ∷ xs) = each_passes (p x) xs && each_pair_passes p xs

-- each item passes with its number, from v on
abbrev pub each_numbered_passes : {X : Type 0} → (ℕ → X → Bool) → ℕ → List X → Bool
each_numbered_passes p v [] = true
each_numbered_passes p v (x ∷ xs) = p v x && each_numbered_passes p (suc v) xs

abbrev pub edge_passes : ℕ → Edge → Bool
edge_passes nodes e = nat_lt e.source e.target && (nat_lt e.target nodes && (nat_lt e.slot 2 && nat_lt e.operand 2))

abbrev pub is_before : Edge → Edge → Bool
is_before e f = nat_lt e.source f.source || ((e.source == f.source) && nat_lt e.slot f.slot)

abbrev pub is_input : Kind → Bool
is_input Input = true
is_input _ = false

-- the edges of a node are one for each slot and each operand
abbrev pub has_ways : (ℕ → ℕ) → ℕ → Bool
has_ways count most = (count 0 == one_if (nat_lt 0 most)) && (count 1 == one_if (nat_lt 1 most))

abbrev pub has_edges : List Edge → ℕ → Node → Bool
has_edges edges v node = has_ways (λ slot. length (fan_out edges v slot)) (slots node.kind) && has_ways (λ operand. length (fan_in edges v operand)) (operands node.kind)

-- an output's port is that of one, and a gate's is 0
abbrev pub has_port : ℕ → Node → Bool
has_port outputs node = (not (is_output node.kind) || nat_lt node.port outputs) && ((is_input node.kind || is_output node.kind) || (node.port == 0))

-- two nodes are not one input, nor one output
abbrev pub are_apart : Node → Node → Bool
are_apart n m = not (((is_input n.kind && is_input m.kind) || (is_output n.kind && is_output m.kind)) && (n.port == m.port))

abbrev pub is_output_at : ℕ → Node → Bool
is_output_at port node = is_output node.kind && (node.port == port)

-- each port below this one is that of an output
abbrev pub has_outputs : List Node → ℕ → Bool
has_outputs nodes zero = true
has_outputs nodes (suc port) = some_passes (is_output_at port) nodes && has_outputs nodes port

abbrev pub is_network : List Node → List Edge → Bool
is_network nodes edges =
    (nat_lt (length nodes) 4294967296 && nat_lt (length edges) 4294967296)
    && ((each_passes (edge_passes (length nodes)) edges && each_pair_passes is_before edges)
    && (each_numbered_passes (has_edges edges) 0 nodes
    && (each_pair_passes are_apart nodes
    && (each_passes (has_port (output_count (network_of nodes edges))) nodes
    && has_outputs nodes (output_count (network_of nodes edges))))))
