-- The name of a node by the places of nets.
use Rattle.std.proofs.Common.{◌≡◌, ◌≢◌, ℕ, zero, suc, ◌+◌, ◌<◌, ◌==◌, List, Bool, true, false, [], ◌∷◌, refl}
use Rattle.std.proofs.Common.{sym, ◌∙◌, ap, arith, add-zero}
use Rattle.std.specs.Prelude.{cond, Some, slice_get}
use Rattle.std.proofs.lemmas.Bool.Decides.{Decides-eqb}
use Rattle.std.proofs.lemmas.Option.{none-some, same_Some}
use Rattle.ca_cell.specs.declared.raw.RawPin.{RawPin}
use Rattle.ca_cell.specs.declared.raw.RawCell.{RawCell}
use Rattle.ca_cell.specs.Raw.{node_of}
use Rattle.ca_cell.specs.Nodes.{IsNameOf}
use Rattle.ca_cell.specs.Name.{net_from, node_name}

-- the first net of the node, counted from a place, is the one that is found
net_from-first : (pins : List RawPin) (n place : ℕ) (nets : List (List ℕ)) (k : ℕ) (name : List ℕ) → slice_get nets k ≡ Some name → node_of pins (place + k) ≡ n
    → ((j : ℕ) → j < k → node_of pins (place + j) ≢ n) → net_from pins n place nets ≡ name
net_from-first pins n place [] k name there is none = absurd (none-some name there)
net_from-first pins n place (net ∷ more) zero name there is none =
    let passes : (node_of pins place == n) ≡ true = (Decides-eqb (node_of pins place) n).1 (ap (node_of pins) (sym (add-zero place)) ∙ is) in
    ap (λ (b : Bool). cond b net (net_from pins n (place + 1) more)) passes ∙ same_Some net name there
net_from-first pins n place (net ∷ more) (suc k) name there is none =
    by (node_of pins place == n) refl (net_from-first pins n (place + 1) more k name there)
  where
    by : (b : Bool) → (node_of pins place == n) ≡ b
        → (node_of pins (place + 1 + k) ≡ n → ((j : ℕ) → j < k → node_of pins (place + 1 + j) ≢ n) → net_from pins n (place + 1) more ≡ name)
        → cond (node_of pins place == n) net (net_from pins n (place + 1) more) ≡ name
    by true passes later = absurd (none 0 (omega arith) (ap (node_of pins) (add-zero place) ∙ (Decides-eqb (node_of pins place) n).0 passes))
    by false fails later =
        let next : place + 1 + k ≡ place + suc k = omega arith in
        ap (λ (b : Bool). cond b net (net_from pins n (place + 1) more)) fails
        ∙ later (ap (node_of pins) next ∙ is)
        (λ j before is_node. let after : place + suc j ≡ place + 1 + j = omega arith in none (suc j) (omega arith) (ap (node_of pins) after ∙ is_node))

-- a name of the node is the one that is found
pub name_is_found : (raw : RawCell) (n : ℕ) (name : List ℕ) → IsNameOf raw n name → name ≡ node_name raw n
name_is_found raw n name is =
    sym (net_from-first raw.pins n 0 raw.nets is.place name is.named (from_start is.place ∙ is.is_node) (λ j before same. is.none_before j before (sym (from_start j) ∙ same)))
  where
    from_start : (j : ℕ) → node_of raw.pins (0 + j) ≡ node_of raw.pins j
    from_start j = let same : 0 + j ≡ j = omega arith in ap (node_of raw.pins) same
