-- From the vectors of rows to what a cell's network ends with.
use Rattle.std.proofs.Common.{◌≡◌, ◌≢◌, ℕ, zero, suc, ◌+◌, ◌<◌, ◌↔◌, List, [], ◌∷◌, ◌++◌, length, refl, sym, ◌∙◌, ap, subst, arith}
use Rattle.std.proofs.Common.{get_or, replicate, append_assoc}
use Rattle.ca_net.specs.declared.scale.TheConstants.{INNER_NODE, OUTPUT_NET}
use Rattle.ca_net.specs.declared.trit.Trit.{Trit}
use Rattle.ca_net.specs.declared.trit.Trit.TheVariants.{X}
use Rattle.ca_net.specs.declared.node.NodeKind.{NodeKind}
use Rattle.ca_net.specs.declared.node.NodeKind.TheVariants.{Input, Storage}
use Rattle.ca_net.specs.Circuit.{Circuit}
use Rattle.ca_net.specs.State.{value_at}
use Rattle.ca_net.specs.Limits.{HasInputs, IsFirstLimit}
use Rattle.ca_net.specs.Wave.{input_count, at_inputs}
use Rattle.ca_cell.specs.declared.raw.RawCell.{RawCell}
use Rattle.ca_cell.specs.Raw.{is_input, is_output, role_count, inner_count}
use Rattle.ca_cell.specs.Exposes.{pin_vector}
use Rattle.ca_response.specs.CellNet.{HasNodesOf}
use Rattle.ca_response.proofs.NodeLemmas.{pins_of}
use Rattle.ca_settle.proofs.VectorLemmas.{input_count-lt}
use Rattle.ca_block.proofs.LimitLemmas.{first_as}
use Rattle.std.specs.Prelude.{Some, slice_get}
use Rattle.std.proofs.lemmas.Option.{same_Some, slice_get_within}
use Rattle.ca_net.specs.declared.wave.Wave.{Wave}
use Rattle.ca_response.specs.Outputs.{output_node}
use Rattle.ca_cell.specs.Exposes.{CellEndsAt}
use Rattle.ca_row_block.specs.declared.room.RowRoom.{RowRoom}
use Rattle.ca_row_block.specs.Rows.{first_of, last_of, end_at, HoldsRow, AreRowEnds}
use Rattle.ca_row_block.specs.code.Loaded.{IsLoadedTo, rails_and}

count_append : (front back : List NodeKind) → input_count (front ++ back) ≡ input_count front + input_count back
count_append [] back = omega arith
count_append (Input ∷ front) back = omega (arith, count_append front back)
count_append (Storage size ∷ front) back = count_append front back

count_inputs : (count : ℕ) → input_count (replicate count Input) ≡ count
count_inputs zero = refl
count_inputs (suc count) = omega (arith, count_inputs count)

-- nodes that are first an input node each, and then none, have as a vector the values in their order
inputs_first : (count : ℕ) (rest : List NodeKind) (values : List Trit) (n : ℕ) → input_count rest ≡ 0 → n < length (replicate count Input ++ rest)
    → get_or (replicate count Input ++ rest) n Input ≡ Input → (n < count) × (value_at (at_inputs (replicate count Input ++ rest) values) n ≡ value_at values n)
inputs_first zero rest values n none lt is = absurd (let less = input_count-lt rest n lt is in omega (arith, less, none))
inputs_first (suc count) rest [] zero none lt is = (omega arith, refl)
inputs_first (suc count) rest (v ∷ values) zero none lt is = (omega arith, refl)
inputs_first (suc count) rest [] (suc n) none lt is =
    let before = inputs_first count rest [] n none (omega arith) is in (omega (arith, before.0), before.1)
inputs_first (suc count) rest (v ∷ values) (suc n) none lt is =
    let before = inputs_first count rest values n none (omega arith) is in (omega (arith, before.0), before.1)

-- a state whose first nodes have power, ground and a vector has the vector at the input nodes
pub inputs_loaded : (raw : RawCell) (net : Circuit) (vector s : List Trit) → HasNodesOf raw net
    → IsLoadedTo (2 + role_count is_input raw.pins) (rails_and vector) s → HasInputs net (pin_vector net vector) s
inputs_loaded raw net vector s has loaded n is =
    let inputs = role_count is_input raw.pins in
    let rest : List NodeKind = (replicate (role_count is_output raw.pins) (Storage OUTPUT_NET) ++ replicate (inner_count raw) (Storage INNER_NODE)) ++ has.added in
    let nodes : net.nodes ≡ replicate (2 + inputs) Input ++ rest = has.nodes ∙ append_assoc (replicate (2 + inputs) Input) _ has.added in
    let none : input_count rest ≡ 0 =
    let all = (pins_of raw net has).inputs_are in
    let whole = ap input_count nodes ∙ count_append (replicate (2 + inputs) Input) rest in
    let front = count_inputs (2 + inputs) in omega (arith, all, whole, front) in
    let at = inputs_first (2 + inputs) rest (rails_and vector) n none (subst (λ xs. n < length xs) nodes is.0) (subst (λ xs. get_or xs n Input ≡ Input) nodes is.1) in
    loaded n at.0 ∙ sym at.1 ∙ sym (ap (λ xs. value_at (at_inputs xs (rails_and vector)) n) nodes)

-- the first limit for what a lane has at the input nodes is that of its vector, and the other way round
pub first_of_state : (raw : RawCell) (net : Circuit) (vector s first : List Trit) → HasNodesOf raw net
    → IsLoadedTo (2 + role_count is_input raw.pins) (rails_and vector) s → IsFirstLimit net s first → IsFirstLimit net (pin_vector net vector) first
first_of_state raw net vector s first has loaded is =
    first_as net s (pin_vector net vector) first (λ n i. inputs_loaded raw net vector s has loaded n i) is

pub first_of_vector : (raw : RawCell) (net : Circuit) (vector s first : List Trit) → HasNodesOf raw net
    → IsLoadedTo (2 + role_count is_input raw.pins) (rails_and vector) s → IsFirstLimit net (pin_vector net vector) first → IsFirstLimit net s first
first_of_vector raw net vector s first has loaded is =
    first_as net (pin_vector net vector) s first (λ n i. sym (inputs_loaded raw net vector s has loaded n i)) is

-- the network has as many input nodes as the cell has input pins, and two more
pub pin_count : (raw : RawCell) (net : Circuit) → HasNodesOf raw net → input_count net.nodes ≡ 2 + role_count is_input raw.pins
pin_count raw net has = (pins_of raw net has).inputs_are

-- an output pin's node is one of the network's
pub output_within : (raw : RawCell) (net : Circuit) (output : ℕ) → HasNodesOf raw net → output < role_count is_output raw.pins
    → 2 + role_count is_input raw.pins + output < length net.nodes
output_within raw net output has lt = let fit = (pins_of raw net has).outputs_fit in omega (arith, fit, lt)

-- one more wave ends with its value
pub pushed_end : (f : ℕ → Trit) (xs : List Wave) (w : Wave) (count : ℕ) → length xs ≡ count → w.last ≡ f count
    → ((k : ℕ) (wave : Wave) → slice_get xs k ≡ Some wave → wave.last ≡ f k)
    → (k : ℕ) (wave : Wave) → slice_get (xs ++ w ∷ []) k ≡ Some wave → wave.last ≡ f k
pushed_end f [] w count len is before zero wave there =
    let same : w ≡ wave = same_Some w wave there in
    ap (λ (x : Wave). x.last) (sym same) ∙ is ∙ ap f (sym len)
pushed_end f [] w count len is before (suc k) wave there = cc
pushed_end f (x ∷ xs) w count len is before zero wave there = before zero wave there
pushed_end f (x ∷ xs) w count len is before (suc k) wave there =
    pushed_end (λ j. f (suc j)) xs w (length xs) refl (is ∙ ap f (sym len)) (λ j v at. before (suc j) v at) k wave there

-- waves that end with what the room holds are the ends of the row
pub ends_of_waves : (raw : RawCell) (net : Circuit) (number lane first : ℕ) (room : RowRoom) (waves : List Wave) → HoldsRow raw net number lane room
    → first ≡ 2 + role_count is_input raw.pins → length waves ≡ role_count is_output raw.pins
    → ((k : ℕ) (wave : Wave) → slice_get waves k ≡ Some wave → wave.last ≡ end_at room (first + k) lane) → AreRowEnds raw net number waves
ends_of_waves raw net number lane first room waves holds is count ends place wave v there =
    let within : place < role_count is_output raw.pins = let lt = slice_get_within waves place wave there in omega (arith, lt, count) in
    let last : wave.last ≡ end_at room (output_node raw place) lane = ends place wave there ∙ ap (λ n. end_at room (n + place) lane) is in
    subst (λ x. ((v ≢ X) × (x ≡ v)) ↔ CellEndsAt net (first_of (role_count is_input raw.pins) number) (last_of (role_count is_input raw.pins) number) (output_node raw place) v)
    (sym last) (holds place v within)
