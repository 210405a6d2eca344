-- Members of lists, and the constants that `assign`s name.
use Rattle.std.proofs.Common.{◌≡◌, ℕ, zero, suc, ◌+◌, ◌<◌, List, [], ◌∷◌, Bool, true, false, map, inl, inr}
use Rattle.std.proofs.Common.{refl, sym, ◌∙◌, ap, subst, arith, true≢false}
use Rattle.std.specs.Prelude.{◌⊎◌, ◌||◌, ◌&&◌, Some, slice_get, option_map, nat_lt}
use Rattle.std.specs.List.{Contains, All, list_any, flat_map}
use Rattle.std.proofs.lemmas.Bool.{ltb-true, lt-ltb}
use Rattle.std.proofs.lemmas.List.Elements.{Contains-append_left, Contains-append_right}
use Rattle.std.proofs.lemmas.List.Elements.{Contains-append_cases}
use Rattle.std.proofs.lemmas.Option.{slice_get_within, slice_get-map, slice_get-get_or, get_or_from_slice_get}
use Rattle.ca_verilog.specs.declared.raw.RawBit.{RawBit}
use Rattle.ca_verilog.specs.declared.raw.RawBit.TheVariants.{Bit, Constant}
use Rattle.ca_verilog.specs.declared.raw.RawSpan.{RawSpan}
use Rattle.ca_verilog.specs.Joins.{bit_after, pairs_of}
use Rattle.ca_verilog.specs.IsNetlist.{IsBit, IsJoinOf}
use Rattle.ca_wiring.specs.declared.joined.Join.{Join}
use Rattle.ca_wiring.specs.Wiring.{wire_of, joins_of}
use Rattle.ca_linked.proofs.DriverLemmas.{some_inj}
use Rattle.ca_wiring.proofs.SpanLemmas.{join_of, pair_at, from_joins, to_joins, from_all, to_all, from_span}
use Rattle.ca_wiring.proofs.SpanLemmas.{to_span}
use Rattle.ca_draft.specs.OnWires.{is_constant, has_constant}

-- what a list has that is made of the parts of others
pub record IsInPart {X : Type 0} (f : X → List ℕ) (xs : List X) (n : ℕ) : Type 0 where
  pub place : ℕ
  pub part : X
  pub at : slice_get xs place ≡ Some part
  pub has : Contains (f part) n

pub in_part : {X : Type 0} (f : X → List ℕ) (xs : List X) (n : ℕ) → Contains (flat_map f xs) n → IsInPart f xs n
in_part f [] n has = absurd (let lt = has.1 in omega (arith, lt))
in_part f (x ∷ xs) n has = elim (Contains-append_cases (f x) (flat_map f xs) n has) [
  | inl here ↦ record { place = 0; part = x; at = refl; has = here }
  | inr later ↦ let rest = in_part f xs n later in record { place = suc rest.place; part = rest.part; at = rest.at; has = rest.has }
]

pub in_all : {X : Type 0} (f : X → List ℕ) (xs : List X) (k : ℕ) (x : X) (n : ℕ) → slice_get xs k ≡ Some x → Contains (f x) n
    → Contains (flat_map f xs) n
in_all f [] k x n at has = absurd (let lt = slice_get_within [] k x at in omega (arith, lt))
in_all f (first ∷ xs) zero x n at has =
    Contains-append_left (f first) (flat_map f xs) n (subst (λ y. Contains (f y) n) (sym (some_inj first x at)) has)
in_all f (first ∷ xs) (suc k) x n at has = Contains-append_right (f first) (flat_map f xs) n (in_all f xs k x n at has)

-- what is in a list of values
pub record IsValueOf {X Y : Type 0} (f : X → Y) (xs : List X) (k : ℕ) (y : Y) : Type 0 where
  pub item : X
  pub at : slice_get xs k ≡ Some item
  pub is : f item ≡ y

pub value_of : {X Y : Type 0} (f : X → Y) (xs : List X) (k : ℕ) (y : Y) → slice_get (map f xs) k ≡ Some y → IsValueOf f xs k y
value_of f [] k y at = absurd (let lt = slice_get_within [] k y at in omega (arith, lt))
value_of f (x ∷ xs) zero y at = record { item = x; at = refl; is = some_inj (f x) y at }
value_of f (x ∷ xs) (suc k) y at = let rest = value_of f xs k y at in record { item = rest.item; at = rest.at; is = rest.is }

pub value_at : {X Y : Type 0} (f : X → Y) (xs : List X) (k : ℕ) (x : X) → slice_get xs k ≡ Some x → slice_get (map f xs) k ≡ Some (f x)
value_at f xs k x at = slice_get-map f xs k ∙ ap (option_map f) at

-- some item of the list passes the test
pub record IsPassed {X : Type 0} (p : X → Bool) (xs : List X) : Type 0 where
  pub place : ℕ
  pub item : X
  pub at : slice_get xs place ≡ Some item
  pub passed : p item ≡ true

pub passed_any : {X : Type 0} (p : X → Bool) (xs : List X) (k : ℕ) (x : X) → slice_get xs k ≡ Some x → p x ≡ true → list_any p xs ≡ true
passed_any p [] k x at is = absurd (let lt = slice_get_within [] k x at in omega (arith, lt))
passed_any p (first ∷ xs) zero x at is = ap (λ b. b || list_any p xs) (ap p (some_inj first x at) ∙ is)
passed_any p (first ∷ xs) (suc k) x at is = ap (λ b. p first || b) (passed_any p xs k x at is) ∙ or_true (p first)
  where
    or_true : (b : Bool) → (b || true) ≡ true
    or_true true = refl
    or_true false = refl

pub any_passed : {X : Type 0} (p : X → Bool) (xs : List X) → list_any p xs ≡ true → IsPassed p xs
any_passed p [] is = absurd (true≢false (sym is))
any_passed p (first ∷ xs) is = by (λ e. any_passed p xs e) (p first) refl is
  where
    by : (list_any p xs ≡ true → IsPassed p xs) → (b : Bool) → p first ≡ b → (b || list_any p xs) ≡ true → IsPassed p (first ∷ xs)
    by rest true e reported = record { place = 0; item = first; at = refl; passed = e }
    by rest false e reported = let found = rest reported in record { place = suc found.place; item = found.item; at = found.at; passed = found.passed }

-- the sides of a join
abbrev pub sides_of : Join → List ℕ
sides_of join = join.left ∷ join.right ∷ []

-- the wire of a constant, where this many bits are declared
abbrev pub constant_at : ℕ → Bool → ℕ
constant_at bits false = bits
constant_at bits true = bits + 1

module _ (bits : ℕ) (value : Bool) where
  -- a bit on a constant's wire is the constant
  on_constant : (bit : RawBit) (step : ℕ) → IsBit bits (bit_after step bit) → wire_of bits (bit_after step bit) ≡ constant_at bits value
      → is_constant value bit ≡ true
  on_constant (Bit number) step is at = by value at
    where
      by : (v : Bool) → number + step ≡ constant_at bits v → is_constant v (Bit number) ≡ true
      by true e = absurd (omega (arith, e, is))
      by false e = absurd (omega (arith, e, is))
  on_constant (Constant other) step is at = by value other at
    where
      by : (v o : Bool) → wire_of bits (Constant o) ≡ constant_at bits v → is_constant v (Constant o) ≡ true
      by true true e = refl
      by true false e = absurd (omega (arith, e))
      by false true e = absurd (omega (arith, e))
      by false false e = refl

  constant_on : (bit : RawBit) (step : ℕ) → is_constant value bit ≡ true → wire_of bits (bit_after step bit) ≡ constant_at bits value
  constant_on (Bit number) step is = absurd (true≢false (sym is))
  constant_on (Constant other) step is = by value other is
    where
      by : (v o : Bool) → is_constant v (Constant o) ≡ true → wire_of bits (Constant o) ≡ constant_at bits v
      by true true e = refl
      by true false e = absurd (true≢false (sym e))
      by false true e = absurd (true≢false (sym e))
      by false false e = refl

  module _ (spans : List RawSpan) where
    -- the joins of the spans
    abbrev pub joins : List Join
    joins = joins_of bits (flat_map pairs_of spans)

    pub joined_named : list_any (has_constant value) spans ≡ true → Contains (flat_map sides_of joins) (constant_at bits value)
    joined_named any =
        let found = any_passed (has_constant value) spans any in
        by found.place found.item found.at (nat_lt 0 found.item.count) (is_constant value found.item.left) (is_constant value found.item.right)
        refl refl refl found.passed
      where
        of_pair : (k : ℕ) (span : RawSpan) → slice_get spans k ≡ Some span → 0 < span.count
            → Contains (sides_of (join_of bits (pair_at bits span 0))) (constant_at bits value)
            → Contains (flat_map sides_of joins) (constant_at bits value)
        of_pair k span at some has =
            let pair = to_all bits spans k span (pair_at bits span 0) at (to_span bits span 0 some) in
            let join = to_joins bits (flat_map pairs_of spans) (pair_at bits span 0) pair in
            in_all sides_of joins join.0 (join_of bits (pair_at bits span 0)) (constant_at bits value)
            (slice_get-get_or joins join.0 (join_of bits (pair_at bits span 0)) join.1 ∙ ap Some join.2) has

        by : (k : ℕ) (span : RawSpan) → slice_get spans k ≡ Some span → (some left right : Bool) → nat_lt 0 span.count ≡ some
            → is_constant value span.left ≡ left → is_constant value span.right ≡ right → (some && (left || right)) ≡ true
            → Contains (flat_map sides_of joins) (constant_at bits value)
        by k span at true true right lt on_left on_right reported =
            of_pair k span at (ltb-true 0 span.count lt) (0, omega arith, constant_on span.left 0 on_left)
        by k span at true false true lt on_left on_right reported =
            of_pair k span at (ltb-true 0 span.count lt) (1, omega arith, constant_on span.right 0 on_right)
        by k span at true false false lt on_left on_right reported = absurd (true≢false (sym reported))
        by k span at false left right lt on_left on_right reported = absurd (true≢false (sym reported))

    pub named_joined : All (IsJoinOf bits) (flat_map pairs_of spans) → Contains (flat_map sides_of joins) (constant_at bits value)
        → list_any (has_constant value) spans ≡ true
    named_joined are has =
        let in_join = in_part sides_of joins (constant_at bits value) has in
        let listed : Contains joins in_join.part =
        (in_join.place, slice_get_within joins in_join.place in_join.part in_join.at, get_or_from_slice_get joins in_join.place in_join.part in_join.part in_join.at) in
        let pair = from_joins bits (flat_map pairs_of spans) in_join.part listed in
        let span = from_all bits spans pair.0 pair.1 in
        let step = from_span bits span.1 pair.0 span.3 in
        let is : IsJoinOf bits (pair_at bits span.1 step.0) = subst (IsJoinOf bits) (pair.1.2 ∙ sym step.2) (are pair.1.0 pair.0 pair.1.1) in
        let side : Contains (sides_of (join_of bits (pair_at bits span.1 step.0))) (constant_at bits value) =
        subst (λ (j : Join). Contains (sides_of j) (constant_at bits value)) (sym pair.2 ∙ ap (join_of bits) (sym step.2)) in_join.has in
        passed_any (has_constant value) spans span.0 span.1 span.2 (by span.1 step.0 step.1 is side)
      where
        both : (some left right : Bool) → some ≡ true → (left ≡ true) ⊎ (right ≡ true) → (some && (left || right)) ≡ true
        both true true right e reported = refl
        both true false true e reported = refl
        both true false false e (inl bad) = absurd (true≢false (sym bad))
        both true false false e (inr bad) = absurd (true≢false (sym bad))
        both false left right e reported = absurd (true≢false (sym e))

        by : (span : RawSpan) (step : ℕ) → step < span.count → IsJoinOf bits (pair_at bits span step)
            → Contains (sides_of (join_of bits (pair_at bits span step))) (constant_at bits value) → has_constant value span ≡ true
        by span step lt is (zero, less, e) =
            both (nat_lt 0 span.count) (is_constant value span.left) (is_constant value span.right) (lt-ltb 0 span.count (omega (arith, lt)))
            (inl (on_constant span.left step is.0 e))
        by span step lt is (suc zero, less, e) =
            both (nat_lt 0 span.count) (is_constant value span.left) (is_constant value span.right) (lt-ltb 0 span.count (omega (arith, lt)))
            (inr (on_constant span.right step is.1 e))
        by span step lt is (suc (suc k), less, e) = absurd (omega (arith, less))
