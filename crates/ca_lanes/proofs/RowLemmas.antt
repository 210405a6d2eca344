-- What the rows give, one vector more.
use Rattle.std.proofs.Common.{◌≡◌, ℕ, zero, suc, ◌+◌, ◌*◌, ◌<◌, Bool, true, false, ◌&&◌, ◌||◌, List, [], ◌∷◌}
use Rattle.std.proofs.Common.{get_or, length, refl, sym, ap, ap₂, ◌∙◌, subst, arith, add-one}
use Rattle.ca_net.specs.declared.trit.Trit.{Trit}
use Rattle.ca_net.specs.declared.trit.Trit.TheVariants.{Zero, X}
use Rattle.ca_lanes.specs.declared.plane.Plane.{Plane}
use Rattle.ca_lanes.specs.Plane.{lane_of}
use Rattle.ca_lanes.specs.Choice.{Choice, no_choice}
use Rattle.ca_lanes.specs.code.Choice.{either_choice, choice_over, choice_with}
use Rattle.ca_lanes.specs.GoodRows.{good_at, AreRows}
use Rattle.ca_lanes.specs.code.Allowed.{lanes_of}
use Rattle.ca_lanes.specs.code.Given.{given_by, given_by_rows}
use Rattle.ca_lanes.proofs.MaskLemmas.{lane_at}

-- within a list what is past it doesn't count
get_or_any : (values : List Trit) (place : ℕ) (a b : Trit) → place < length values → get_or values place a ≡ get_or values place b
get_or_any [] place a b within = let no : ⊥ = omega (arith, within) in absurd no
get_or_any (value ∷ values) zero a b within = refl
get_or_any (value ∷ values) (suc place) a b within = get_or_any values place a b (omega (arith, within))

pub given_by_none : (allowed : List Bool) (value : ℕ → Trit) → no_choice ≡ given_by allowed value 0
unfolding given_by
given_by_none allowed value = refl

-- the value that was read
pub good_read : (values : List Trit) (count outputs first last output place : ℕ) → place ≡ (first * count + last) * outputs + output
    → place < (count * count) * outputs → AreRows values count outputs → get_or values place Zero ≡ good_at values count outputs first last output
good_read values count outputs first last output place is within rows =
    get_or_any values place Zero X (subst (λ n. place < n) (sym rows.whole) within) ∙ ap (λ n. get_or values n X) is

-- one vector more
pub given_by_more : (planes : List Plane) (lane n : ℕ) (plane : Plane) (value : ℕ → Trit) (read : Trit) (found next : Choice)
    → n < length planes → plane ≡ get_or planes n plane → found ≡ given_by (lanes_of planes lane) value n
    → next ≡ choice_with found (lane_of plane lane) read → read ≡ value n → next ≡ given_by (lanes_of planes lane) value (n + 1)
unfolding given_by
given_by_more planes lane n plane value read found next within is before with here =
    with
    ∙ ap (choice_with found (lane_of plane lane)) here
    ∙ ap (λ bit. choice_with found bit (value n)) (lane_at planes n lane plane within is)
    ∙ ap (λ choice. choice_with choice (get_or (lanes_of planes lane) n false) (value n)) before
    ∙ ap (given_by (lanes_of planes lane) value) (sym (add-one n))

pub given_by_no_rows : (firsts lasts : List Bool) (value : ℕ → ℕ → Trit) (count : ℕ) → no_choice ≡ given_by_rows firsts lasts value count 0
unfolding given_by_rows
given_by_no_rows firsts lasts value count = refl

pub either_none : (choice other : Choice) → either_choice choice (choice_over false other) ≡ choice
either_none choice other = ap₂ (λ a b. record { zero = a; one = b }) (or_false choice.zero) (or_false choice.one)
  where
    or_false : (b : Bool) → (b || false) ≡ b
    or_false true = refl
    or_false false = refl

-- what is together with one more first vector
together : (found : Choice) (carried more : Bool) (row : Choice)
    → either_choice found (choice_over (carried || more) row) ≡ either_choice (either_choice found (choice_over carried row)) (choice_over more row)
together found carried more row = ap₂ (λ a b. record { zero = a; one = b }) (one found.zero carried more row.zero) (one found.one carried more row.one)
  where
    one : (a b c d : Bool) → (a || ((b || c) && d)) ≡ ((a || (b && d)) || (c && d))
    one true b c d = refl
    one false true true true = refl
    one false true true false = refl
    one false true false true = refl
    one false true false false = refl
    one false false true d = refl
    one false false false d = refl

-- the rows of one first vector more
pub more_rows : (firsts : List Plane) (lane n : ℕ) (plane : Plane) (lasts : List Bool) (value : ℕ → ℕ → Trit) (count : ℕ) (found : Choice) (carried now : Bool)
    → n < length firsts → plane ≡ get_or firsts n plane → now ≡ (carried || lane_of plane lane)
    → either_choice found (choice_over carried (given_by lasts (value n) count)) ≡ given_by_rows (lanes_of firsts lane) lasts value count n
    → either_choice found (choice_over now (given_by lasts (value n) count)) ≡ given_by_rows (lanes_of firsts lane) lasts value count (n + 1)
unfolding given_by_rows
more_rows firsts lane n plane lasts value count found carried now within is is_now before =
    ap (λ bit. either_choice found (choice_over bit (given_by lasts (value n) count))) (is_now ∙ ap (λ bit. carried || bit) (lane_at firsts n lane plane within is))
    ∙ together found carried (get_or (lanes_of firsts lane) n false) (given_by lasts (value n) count)
    ∙ ap (λ choice. either_choice choice (choice_over (get_or (lanes_of firsts lane) n false) (given_by lasts (value n) count))) before
    ∙ ap (given_by_rows (lanes_of firsts lane) lasts value count) (sym (add-one n))

-- nothing is carried on
pub none_carried : (found next row other done : Choice) (now : Bool) → now ≡ false → next ≡ either_choice found row → either_choice found row ≡ done
    → either_choice next (choice_over now other) ≡ done
none_carried found next row other done now none is before =
    ap (λ bit. either_choice next (choice_over bit other)) none ∙ either_none next other ∙ is ∙ before

-- the same values give the same
pub given_by_same : (allowed : List Bool) (value other : ℕ → Trit) (count : ℕ) → ((n : ℕ) → n < count → value n ≡ other n) → given_by allowed value count ≡ given_by allowed other count
unfolding given_by
given_by_same allowed value other zero same = refl
given_by_same allowed value other (suc count) same =
    ap₂ (λ choice v. choice_with choice (get_or allowed count false) v) (given_by_same allowed value other count (λ n within. same n (omega (arith, within)))) (same count (omega arith))
