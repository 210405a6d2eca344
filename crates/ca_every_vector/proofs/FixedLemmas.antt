-- The values that constants give nets.
use Rattle.std.specs.Prelude.{if◌then◌else◌, ◌==◌, slice_get, Some}
use Rattle.std.proofs.Common.{◌≡◌, ℕ, zero, suc, Bool, true, false, ◌<◌, List, [], ◌∷◌, length, drop, replicate, inl, inr, refl, sym, ◌∙◌, ap, subst, arith, slice_set}
use Rattle.std.proofs.lemmas.Bool.{eqb-true, eqb-false}
use Rattle.std.proofs.Math.Seq.{drop-cons}
use Rattle.std.proofs.lemmas.List.{get_or-set_same, get_or-set_other, length-replicate, length-set}
use Rattle.std.proofs.lemmas.Option.{get_or_from_slice_get, slice_get_within}
use Rattle.ca_net.specs.declared.trit.Trit.{Trit}
use Rattle.ca_net.specs.declared.trit.Trit.TheVariants.{X}
use Rattle.ca_net.specs.declared.scale.TheConstants.{OUTPUT_NET}
use Rattle.ca_net.specs.declared.node.NodeKind.TheVariants.{Input, Storage}
use Rattle.ca_net.specs.State.{value_at}
use Rattle.ca_net.specs.Trit.{IsBelow}
use Rattle.ca_flat.specs.Chip.{Chip, Constant, net_kind}
use Rattle.ca_flat.specs.Pair.{constant_value}
use Rattle.ca_view.specs.Linked.{IsPinned}
use Rattle.ca_every_vector.specs.code.Fixed.{AreFixedBy, fixed_value}
use Rattle.ca_every_vector.proofs.VectorLemmas.{unknown}

-- no constant
pub fixed_none : (count : ℕ) (values : List Trit) → values ≡ replicate count X → AreFixedBy [] count values
fixed_none count values is = record {
  room = ap length is ∙ length-replicate count X;
  each = λ net. ap (λ list. value_at list net) is ∙ unknown count net;
}

-- one constant more, which stands before the others
pub fixed_more : (constants : List Constant) (count k : ℕ) (constant : Constant) (old new : List Trit) → slice_get constants k ≡ Some constant → constant.net < count
    → new ≡ slice_set old constant.net constant.value → AreFixedBy (drop (suc k) constants) count old → AreFixedBy (drop k constants) count new
fixed_more constants count k constant old new there within put fixed = record {
  room = ap length put ∙ length-set old constant.net constant.value ∙ fixed.room;
  each = λ net. each net (net == constant.net) refl ∙ sym (ap (λ list. constant_value list X net) split);
}
  where
    rest : List Constant
    rest = drop (suc k) constants

    split : drop k constants ≡ constant ∷ drop (suc k) constants
    split = drop-cons constants k constant (slice_get_within constants k constant there)
        ∙ ap (λ c. c ∷ drop (suc k) constants) (get_or_from_slice_get constants k constant constant there)

    each : (net : ℕ) (b : Bool) → (net == constant.net) ≡ b → value_at new net ≡ constant_value (constant ∷ drop (suc k) constants) X net
    each net true e =
        ap (λ list. value_at list net) put ∙ ap (λ n. value_at (slice_set old constant.net constant.value) n) (eqb-true net constant.net e)
        ∙ get_or-set_same old constant.net constant.value X (let r = fixed.room in omega arith)
        ∙ ap (λ b. if b then constant.value else constant_value (drop (suc k) constants) X net) (sym e)
    each net false e =
        ap (λ list. value_at list net) put ∙ get_or-set_other old constant.net net constant.value X (eqb-false net constant.net e) ∙ fixed.each net
        ∙ ap (λ b. if b then constant.value else constant_value (drop (suc k) constants) X net) (sym e)

-- what a constant gives a net is at or below what the net has
pub fixed_below : (constants : List Constant) (other : Trit) (net : ℕ) → IsBelow (constant_value constants X net) (constant_value constants other net)
fixed_below [] other net = inl refl
fixed_below (constant ∷ constants) other net = at (net == constant.net) (fixed_below constants other net)
  where
    at : (b : Bool) → IsBelow (constant_value constants X net) (constant_value constants other net)
        → IsBelow (if b then constant.value else constant_value constants X net) (if b then constant.value else constant_value constants other net)
    at true later = inr refl
    at false later = later

-- a net without a constant
unfixed : (constants : List Constant) (net : ℕ) → ((k : ℕ) (constant : Constant) → slice_get constants k ≡ Some constant → constant.net ≡ net → ⊥)
    → constant_value constants X net ≡ X
unfixed [] net none = refl
unfixed (constant ∷ constants) net none = at (net == constant.net) refl (unfixed constants net (λ k other there. none (suc k) other there))
  where
    at : (b : Bool) → (net == constant.net) ≡ b → constant_value constants X net ≡ X → (if b then constant.value else constant_value constants X net) ≡ X
    at true e later = absurd (none zero constant refl (sym (eqb-true net constant.net e)))
    at false e later = later

-- a net that isn't an input net has none
pub unfixed_output : (chip : Chip) (net : ℕ) → IsPinned chip → net_kind chip net ≡ Storage OUTPUT_NET → fixed_value chip net ≡ X
unfixed_output chip net pinned storage = unfixed chip.constants net (λ k constant there on.
    let kind : net_kind chip net ≡ Input = subst (λ n. net_kind chip n ≡ Input) on (pinned.constant_kind k constant there) in
    let clash : Input ≡ Storage OUTPUT_NET = sym kind ∙ storage in cc)
