-- Limits look at their vectors at input nodes alone, and what one has, each has.
use Rattle.std.proofs.Common.{◌≡◌, ℕ, zero, suc, ◌<◌, ◌≤◌, List, [], ◌∷◌, length, refl, sym, ◌∙◌, get_or}
use Rattle.std.proofs.Common.{arith}
use Rattle.ca_net.specs.declared.trit.Trit.{Trit}
use Rattle.ca_net.specs.declared.node.NodeKind.{NodeKind}
use Rattle.ca_net.specs.declared.node.NodeKind.TheVariants.{Input, Storage}
use Rattle.ca_net.specs.Circuit.{Circuit, IsInput}
use Rattle.ca_net.specs.State.{value_at}
use Rattle.ca_net.specs.Wave.{at_inputs}
use Rattle.ca_net.specs.Limits.{IsFixed, IsHeld, AreLimits}

-- two vectors have the same at the input nodes
pub record SameInputs (net : Circuit) (v w : List Trit) : Type 0 where
  pub same : (n : ℕ) → IsInput net n → value_at v n ≡ value_at w n

turned : (net : Circuit) (v w : List Trit) → SameInputs net v w → SameInputs net w v
turned net v w h = record { same = λ n i. sym (h.same n i) }

fixed_over : (net : Circuit) (v w s : List Trit) → SameInputs net v w → IsFixed net v s → IsFixed net w s
fixed_over net v w s h f = record { is_state = f.is_state; inputs = λ n i. f.inputs n i ∙ h.same n i; fixed = f.fixed }

held_over : (net : Circuit) (v w first s : List Trit) → SameInputs net v w → IsHeld net v first s → IsHeld net w first s
held_over net v w first s h f = record { is_state = f.is_state; inputs = λ n i. f.inputs n i ∙ h.same n i; below_first = f.below_first; held = f.held }

-- limits over vectors are limits over others that have the same at the input nodes
pub limits_over : (net : Circuit) (v1 vm v2 w1 wm w2 first middle last : List Trit) → SameInputs net v1 w1 → SameInputs net vm wm → SameInputs net v2 w2
    → AreLimits net v1 vm v2 first middle last → AreLimits net w1 wm w2 first middle last
limits_over net v1 vm v2 w1 wm w2 first middle last h1 hm h2 limits = record {
  is_first = record {
    fixed = fixed_over net v1 w1 first h1 limits.is_first.fixed;
    least = λ t f. limits.is_first.least t (fixed_over net w1 v1 t (turned net v1 w1 h1) f);
  };
  is_middle = record {
    held = held_over net vm wm first middle hm limits.is_middle.held;
    greatest = λ t f. limits.is_middle.greatest t (held_over net wm vm first t (turned net vm wm hm) f);
  };
  is_last = record {
    fixed = fixed_over net v2 w2 last h2 limits.is_last.fixed;
    above = limits.is_last.above;
    least = λ t f. limits.is_last.least t (fixed_over net w2 v2 t (turned net v2 w2 h2) f);
  };
}

-- values that are given to input nodes which all come first are at their own places
pub at_first_inputs : (kinds : List NodeKind) (values : List Trit) (n : ℕ) → n < length kinds
    → ((m : ℕ) → m ≤ n → get_or kinds m Input ≡ Input) → value_at (at_inputs kinds values) n ≡ value_at values n
at_first_inputs [] values n lt all = absurd (omega arith)
at_first_inputs (Storage size ∷ kinds) values n lt all = absurd (let e : Storage size ≡ Input = all 0 (omega arith) in cc)
at_first_inputs (Input ∷ kinds) [] zero lt all = refl
at_first_inputs (Input ∷ kinds) [] (suc n) lt all = at_first_inputs kinds [] n (omega arith) (λ m le. all (suc m) (omega arith))
at_first_inputs (Input ∷ kinds) (value ∷ values) zero lt all = refl
at_first_inputs (Input ∷ kinds) (value ∷ values) (suc n) lt all = at_first_inputs kinds values n (omega arith) (λ m le. all (suc m) (omega arith))
