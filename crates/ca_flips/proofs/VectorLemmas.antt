-- Vectors of the values of an instance's input nets.
use Rattle.std.proofs.Common.{◌≡◌, ◌≢◌, ℕ, zero, suc, ◌+◌, ◌<◌, ◌∷◌, length, refl, ◌∙◌, ap, subst, arith}
use Rattle.std.specs.List.{All}
use Rattle.std.proofs.lemmas.List.Elements.{All-nil, All-cons}
use Rattle.ca_net.specs.declared.trit.Trit.{Trit}
use Rattle.ca_net.specs.declared.trit.Trit.TheVariants.{X}
use Rattle.ca_cell.specs.Exposes.{IsDefiniteVector}
use Rattle.ca_flat.specs.Chip.{Chip, cell_at, inputs_at, net_of}
use Rattle.ca_flat.specs.Pair.{values_from}
use Rattle.ca_flips.specs.Flips.{vector_at}

length-values_from : (value : ℕ → Trit) (j k : ℕ) → length (values_from value j k) ≡ k
unfolding values_from
length-values_from value j zero = refl
length-values_from value j (suc k) = ap suc (length-values_from value (j + 1) k)

All-values_from : (P : Trit → Type 0) (value : ℕ → Trit) (j k : ℕ) → ((n : ℕ) → n < k → P (value (j + n))) → All P (values_from value j k)
unfolding values_from
All-values_from P value j zero each = All-nil P
All-values_from P value j (suc k) each = All-cons P (value j) (values_from value (j + 1) k)
    (subst (λ x. P (value x)) (let e : j + 0 ≡ j = omega arith in e) (each 0 (omega arith)))
    (All-values_from P value (j + 1) k (λ n lt. subst (λ x. P (value x)) (let e : j + suc n ≡ j + 1 + n = omega arith in e) (each (suc n) (omega arith))))

values_from-same : (f g : ℕ → Trit) (j k : ℕ) → ((n : ℕ) → n < k → f (j + n) ≡ g (j + n)) → values_from f j k ≡ values_from g j k
unfolding values_from
values_from-same f g j zero each = refl
values_from-same f g j (suc k) each =
    ap (λ x. x ∷ values_from f (j + 1) k) (subst (λ x. f x ≡ g x) (let e : j + 0 ≡ j = omega arith in e) (each 0 (omega arith)))
    ∙ ap (λ xs. g j ∷ xs) (values_from-same f g (j + 1) k (λ n lt. subst (λ x. f x ≡ g x) (let e : j + suc n ≡ j + 1 + n = omega arith in e) (each (suc n) (omega arith))))

-- values that are one give one vector
pub values_same : (f g : ℕ → Trit) (count : ℕ) → ((n : ℕ) → n < count → f n ≡ g n) → values_from f 0 count ≡ values_from g 0 count
values_same f g count each = values_from-same f g 0 count (λ n lt. subst (λ x. f x ≡ g x) (let e : n ≡ 0 + n = omega arith in e) (each n lt))

-- definite values of the input pins are a definite vector
pub values_definite : (chip : Chip) (w : ℕ) (values : ℕ → Trit) → ((pin : ℕ) → pin < inputs_at chip w → values pin ≢ X)
    → IsDefiniteVector (cell_at chip w) (values_from values 0 (inputs_at chip w))
values_definite chip w values each = record {
  count = length-values_from values 0 (inputs_at chip w);
  definite = All-values_from (λ x. x ≢ X) values 0 (inputs_at chip w) (λ n lt. subst (λ x. values x ≢ X) (let e : n ≡ 0 + n = omega arith in e) (each n lt));
}

-- where the values of the input nets are definite, so is the vector
pub vector_definite : (chip : Chip) (w : ℕ) (values : ℕ → Trit) → ((pin : ℕ) → pin < inputs_at chip w → values (net_of chip w pin) ≢ X)
    → IsDefiniteVector (cell_at chip w) (vector_at chip w values)
vector_definite chip w values each = values_definite chip w (λ pin. values (net_of chip w pin)) each

-- values that are one at the input nets give one vector
pub vector_same : (chip : Chip) (w : ℕ) (values others : ℕ → Trit) → ((pin : ℕ) → pin < inputs_at chip w → values (net_of chip w pin) ≡ others (net_of chip w pin))
    → vector_at chip w values ≡ vector_at chip w others
vector_same chip w values others each = values_same (λ pin. values (net_of chip w pin)) (λ pin. others (net_of chip w pin)) (inputs_at chip w) each
