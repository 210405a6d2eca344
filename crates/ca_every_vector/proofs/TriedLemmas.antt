-- Regions all vectors of which are tried.
use Rattle.std.specs.List.{All}
use Rattle.std.proofs.Common.{◌≡◌, ◌≢◌, ℕ, zero, suc, ◌+◌, ◌-◌, ◌*◌, ◌/◌, ◌%◌, ◌^◌, ◌<◌, ◌≤◌, Bool, true, List, [], ◌∷◌, length, inl, inr, refl, sym, ◌∙◌, ap, subst, arith, get_or}
use Rattle.std.proofs.lemmas.Bool.{cases_eq}
use Rattle.std.proofs.Math.Nat.{mod-eq_of_lt, pow-le-pow_right}
use Rattle.std.proofs.lemmas.Nat.Bits.{bit_at-pow_same, same_from_bits_below}
use Rattle.ca_net.specs.declared.trit.Trit.{Trit}
use Rattle.ca_net.specs.declared.trit.Trit.TheVariants.{X}
use Rattle.ca_net.specs.State.{value_at}
use Rattle.ca_net.specs.Trit.{IsBelow}
use Rattle.ca_cell.specs.Row.{digit_value, vector_of}
use Rattle.ca_flat.specs.Chip.{Chip, inputs_at, net_of}
use Rattle.ca_flat.specs.Detection.{trits_of}
use Rattle.ca_flips.specs.Flips.{vector_at}
use Rattle.ca_flips.specs.Known.{AreKnownLasts}
use Rattle.ca_flips.proofs.PinLemmas.{vector_at_pin}
use Rattle.ca_sweep.specs.Tables.{is_marked}
use Rattle.ca_sweep.specs.code.Changes.{IsNumberOf}
use Rattle.ca_every_vector.specs.Possible.{Has}
use Rattle.ca_every_vector.specs.Inside.{HasAllFrom, HasLastsInside}
use Rattle.ca_every_vector.specs.code.Masks.{mask_at, AreMore}
use Rattle.ca_every_vector.specs.code.Region.{HasLastsAt, IsForNumber, IsFull, IsTried, IsTriedAt, IsTriedTo, input_at}
use Rattle.ca_every_vector.proofs.GivenLemmas.{known_pins}
use Rattle.ca_every_vector.proofs.VectorLemmas.{digit_at}
use Rattle.ca_every_vector.proofs.RegionLemmas.{number_for, number_fits, is_for_number}

-- digits with the same value are the same
digit_same : (a b : ℕ) → a < 2 → b < 2 → digit_value a ≡ digit_value b → a ≡ b
digit_same zero zero low_a low_b same = refl
digit_same zero (suc zero) low_a low_b same = cc
digit_same (suc zero) zero low_a low_b same = cc
digit_same (suc zero) (suc zero) low_a low_b same = refl
digit_same (suc (suc a)) b low_a low_b same = absurd (omega arith)
digit_same a (suc (suc b)) low_a low_b same = absurd (omega arith)

-- numbers with one vector are one
pub number_same : (count a b : ℕ) → a < 2 ^ count → b < 2 ^ count → ((place : ℕ) → place < count → value_at (vector_of count a) place ≡ value_at (vector_of count b) place) → a ≡ b
number_same count a b low_a low_b same = same_from_bits_below count a b low_a low_b (λ i low.
    let place = count - 1 - i in
    let e : count - 1 - place ≡ i = omega arith in
    let digits : digit_value (a / 2 ^ (count - 1 - place) % 2) ≡ digit_value (b / 2 ^ (count - 1 - place) % 2) =
    sym (digit_at count a place (omega arith)) ∙ same place (omega arith) ∙ digit_at count b place (omega arith) in
    digit_same (a / 2 ^ i % 2) (b / 2 ^ i % 2) (omega arith) (omega arith) (subst (λ k. digit_value (a / 2 ^ k % 2) ≡ digit_value (b / 2 ^ k % 2)) e digits))

below_known : (v d : Trit) → IsBelow v d → v ≢ X → v ≡ d
below_known v d (inl e) known = absurd (known e)
below_known v d (inr e) known = e

-- the vector that definite values give is the only one at or above them
pub only_number : (chip : Chip) (u : ℕ) (values : ℕ → Trit) (number other : ℕ) → IsNumberOf (inputs_at chip u) (vector_at chip u values) number → other < 2 ^ inputs_at chip u
    → ((pin : ℕ) → pin < inputs_at chip u → IsBelow (values (net_of chip u pin)) (value_at (vector_of (inputs_at chip u) other) pin)) → other ≡ number
only_number chip u values number other is low over = number_same (inputs_at chip u) other number low is.within (λ pin within.
    sym (below_known (values (net_of chip u pin)) _ (over pin within) (known_pins chip u values number is pin within))
    ∙ sym (ap (λ v. value_at v pin) is.vector_is ∙ vector_at_pin chip u values pin within))

pub one_vector : (chip : Chip) (u : ℕ) (values : ℕ → Trit) (number rows : ℕ) → IsNumberOf (inputs_at chip u) (vector_at chip u values) number → Has rows number → HasAllFrom chip u values rows
one_vector chip u values number rows is has other low over = subst (Has rows) (sym (only_number chip u values number other is low over)) has

pub one_row : (number : ℕ) → number < 64 → Has (1 * 2 ^ number % 2 ^ 64) number
one_row number low =
    let powers : 2 ^ number ≤ 2 ^ 63 = (let most : number ≤ 63 = omega arith in pow-le-pow_right (omega arith) most) in
    let same : 1 * 2 ^ number % 2 ^ 64 ≡ 2 ^ number = mod-eq_of_lt (omega (arith, powers)) ∙ omega arith in
    subst (λ rows. Has rows number) (sym same) (bit_at-pow_same number)

-- what matters is in a mask with more
pub lasts_at_more : (chip : Chip) (values : ℕ → Trit) (u old new : ℕ) → ((number : ℕ) → Has old number → Has new number) → HasLastsAt chip values u old → HasLastsAt chip values u new
lasts_at_more chip values u old new more (inl stay) = inl stay
lasts_at_more chip values u old new more (inr has) = inr (λ number low over. more number (has number low over))

pub inside_more : (chip : Chip) (u old new : ℕ) (partial : List Trit) → ((number : ℕ) → Has old number → Has new number) → HasLastsInside chip u old partial → HasLastsInside chip u new partial
inside_more chip u old new partial more inside = record {
  values = inside.values;
  known = inside.known;
  has = lasts_at_more chip inside.values u old new more inside.has;
}

-- values that are known for the digits of a number
pub tried_at : (chip : Chip) (inputs : List ℕ) (number u : ℕ) (values : List Trit) (masks : List ℕ)
    → ((pair : List Trit) → IsForNumber chip inputs number pair → AreKnownLasts chip pair (value_at values)) → HasLastsAt chip (value_at values) u (mask_at masks u)
    → IsTriedAt chip inputs number masks u
tried_at chip inputs number u values masks known has pair for = record { values = value_at values; known = known pair for; has = has }

-- a full mask has what matters, whatever is known
pub full_at : (chip : Chip) (inputs : List ℕ) (number u : ℕ) (masks : List ℕ) → 2 ^ inputs_at chip u ≤ 64 → IsFull (mask_at masks u) → IsTriedAt chip inputs number masks u
full_at chip inputs number u masks few full pair for = record {
  values = λ net. X;
  known = record { inputs = λ net low kind. inl refl; outputs = λ w output known low definite. absurd (definite refl) };
  has = inr (λ n low over. full n (omega arith));
}

-- one number more
pub tried_more : (chip : Chip) (inputs : List ℕ) (end u : ℕ) (old new : List ℕ) → AreMore old new → IsTriedTo chip inputs end old u → IsTriedAt chip inputs end new u
    → IsTriedTo chip inputs (end + 1) new u
tried_more chip inputs end u old new more before here number less = elim (cases_eq number end) [
  | inl e ↦ subst (λ n. IsTriedAt chip inputs n new u) (sym e) here
  | inr other ↦ λ pair for. inside_more chip u (mask_at old u) (mask_at new u) pair (more.each u) (before number (omega (arith, other)) pair for)
]

-- all numbers were tried
pub tried_all : (chip : Chip) (inputs : List ℕ) (end u : ℕ) (masks : List ℕ) → ((j : ℕ) → j < length inputs → input_at inputs j < length chip.inputs) → 2 ^ length inputs ≤ end
    → IsTriedTo chip inputs end masks u → IsTried chip masks u
tried_all chip inputs end u masks known all tried bits count = record {
  partial = trits_of bits;
  below = λ bit. inr refl;
  of = tried (number_for chip inputs known bits count) (let fits = number_fits chip inputs known bits count in omega arith) (trits_of bits) (is_for_number chip inputs known bits count);
}

pub is_tried_more : (chip : Chip) (u : ℕ) (old new : List ℕ) → AreMore old new → IsTried chip old u → IsTried chip new u
is_tried_more chip u old new more tried bits count =
    let before = tried bits count in
    record { partial = before.partial; below = before.below; of = inside_more chip u (mask_at old u) (mask_at new u) before.partial (more.each u) before.of }

-- nothing is marked in a list of none
pub none_marked : (marks : List Bool) (u : ℕ) → marks ≡ [] → is_marked marks u ≡ true → ⊥
none_marked [] u is marked = cc
none_marked (mark ∷ marks) u is marked = cc

-- what each of a list has, each has after a step
pub all_with : {A : Type 0} (P Q R : A → Type 0) (xs : List A) → ((x : A) → P x → Q x → R x) → All P xs → All Q xs → All R xs
all_with P Q R xs step one two k d low = step (get_or xs k d) (one k d low) (two k d low)

pub all_then : {A : Type 0} (P Q : A → Type 0) (xs : List A) → ((x : A) → P x → Q x) → All P xs → All Q xs
all_then P Q xs step all k d low = step (get_or xs k d) (all k d low)
