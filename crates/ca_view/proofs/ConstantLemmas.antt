-- The nets of the constants.
use Rattle.std.proofs.Common.{◌≡◌, ℕ, ◌<◌, ◌≤◌, [], ◌∷◌, Bool, true, false, refl, sym, ap, arith}
use Rattle.std.specs.Prelude.{IsTrue, not, Option, Some, None, if◌then◌else◌}
use Rattle.ca_linked.specs.declared.parts.Source.TheVariants.{FromConstant}
use Rattle.ca_linked.specs.Linked.{LinkedChip, net_count, constant_net, is_scan_path, IsWired}
use Rattle.ca_view.specs.Core.{core_net, trit_of, constant_on}

-- one constant drives a net
pub same_constant : (chip : LinkedChip) → IsWired chip → (net : ℕ) (found value : Bool) → constant_net chip found ≡ Some net → constant_net chip value ≡ Some net
    → found ≡ value
same_constant chip is net found value one other =
    let same = is.one_driver net (FromConstant found) (FromConstant value) one other in cc

-- a constant that drives none of the nets drives nothing
pub no_net : (chip : LinkedChip) (value : Bool) (end : ℕ) → IsWired chip → ((m : ℕ) → m < end → constant_net chip value ≡ Some m → ⊥)
    → net_count chip ≤ end → None ≡ constant_net chip value
no_net chip value end is none all = by (constant_net chip value) refl
  where
    by : (o : Option ℕ) → constant_net chip value ≡ o → None ≡ o
    by None e = refl
    by (Some net) e = absurd (none net (let lt = is.constants_on_nets value net e in omega arith) e)

-- the constant of the core on a net that the chip's drives
pub constant_here : (chip : LinkedChip) (value : Bool) (net : ℕ) → is_scan_path chip net ≡ false
    → record { net = core_net chip net; value = trit_of value } ∷ [] ≡ constant_on chip value (Some net)
constant_here chip value net off = sym (ap (λ b. if b then [] else record { net = core_net chip net; value = trit_of value } ∷ []) off)

pub constant_on_path : (chip : LinkedChip) (value : Bool) (net : ℕ) → is_scan_path chip net ≡ true → [] ≡ constant_on chip value (Some net)
constant_on_path chip value net on = sym (ap (λ b. if b then [] else record { net = core_net chip net; value = trit_of value } ∷ []) on)

-- where a constant drives the net, the value is the constant's exactly where that of this value does
pub driven_true : (chip : LinkedChip) → IsWired chip → (net : ℕ) (value : Bool) → constant_net chip true ≡ Some net
    → (IsTrue value → constant_net chip value ≡ Some net) × (constant_net chip value ≡ Some net → IsTrue value)
driven_true chip is net true one = (λ h. one, λ e. refl)
driven_true chip is net false one = (λ h. absurd (let clash : false ≡ true = h in cc), λ e. same_constant chip is net false true e one)

pub driven_false : (chip : LinkedChip) → IsWired chip → (net : ℕ) (value : Bool) → constant_net chip false ≡ Some net
    → (IsTrue (not value) → constant_net chip value ≡ Some net) × (constant_net chip value ≡ Some net → IsTrue (not value))
driven_false chip is net true one = (λ h. absurd (let clash : false ≡ true = h in cc), λ e. same_constant chip is net false true one e)
driven_false chip is net false one = (λ h. one, λ e. refl)
