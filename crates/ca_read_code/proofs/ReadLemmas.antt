-- The whole reading.
use Rattle.std.proofs.Common.{◌≡◌, ℕ, zero, suc, ◌+◌, ◌<◌, ◌≤◌, List, [], ◌∷◌, length, Bool, true, false}
use Rattle.std.proofs.Common.{refl, sym, ◌∙◌, ap, subst, arith, Some, drop, eqb, eqb-true}
use Rattle.std.proofs.lemmas.Bool.{eqb-false}
use Rattle.std.specs.Prelude.{◌↔◌, slice_get}
use Rattle.ca_net.specs.declared.trit.Trit.{Trit}
use Rattle.ca_flat.specs.declared.token.Token.{Token}
use Rattle.ca_flat.specs.declared.token.Token.TheVariants.{Branch, Leaf}
use Rattle.ca_flat.specs.Codes.{Reading, At, Ended, unset_pair, following, Rules, Reads, branch_count}
use Rattle.ca_flat.specs.Codes.{IsWholeBy, IsFrontBy, IsSpentBy}
use Rattle.ca_read_code.specs.declared.walk.Decision.{Decision}
use Rattle.ca_read_code.specs.declared.walk.CodeEnd.{CodeEnd}
use Rattle.ca_read_code.specs.declared.walk.CodeEnd.TheVariants.{Unlawful, Whole, Front}
use Rattle.ca_read_code.specs.declared.walk.Stride.TheVariants.{Falls, Ends, Goes}
use Rattle.ca_read_code.specs.Examined.{Examined, with_pair, IsSameAim, MayGoOn}
use Rattle.ca_read_code.specs.CodeEnd.{rules_of}
use Rattle.ca_read_code.specs.code.CodeEnd.{start_of, IsUnlawful, IsEnd, end_by}
use Rattle.ca_read_code.specs.code.Walk.{pair_after, later_after, AreFresh, Follows, still_later, reading_of}
use Rattle.ca_read_code.specs.code.Walk.{IsReadTo, IsStride}

-- before the first token
pub reading_begins : (old new : Examined) (code : List Token) (ds : List Decision) → new ≡ with_pair old (unset_pair old.chip)
    → ds ≡ [] → Follows new ds × IsReadTo new code code (reading_of new ds)
unfolding pair_after later_after AreFresh
reading_begins old new code ds is none =
    subst (λ d. Follows new d × IsReadTo new code code (reading_of new d)) (sym none)
    (subst (λ e. Follows e [] × IsReadTo e code code (reading_of e [])) (sym is)
    (record { at = refl; fresh = tt }, λ to. (λ reads. reads, λ reads. reads)))

drop_suc : {T : Type 0} (xs : List T) (place : ℕ) (x : T) → slice_get xs place ≡ Some x → drop place xs ≡ x ∷ drop (suc place) xs
drop_suc [] place x e = absurd (cc)
drop_suc (y ∷ xs) zero x e = let same : y ≡ x = cc in ap (λ z. z ∷ xs) same
drop_suc (y ∷ xs) (suc place) x e = drop_suc xs place x e

-- the tokens from a place on
pub drop_at : {T : Type 0} (xs : List T) (place : ℕ) (x : T) → slice_get xs place ≡ Some x → drop place xs ≡ x ∷ drop (place + 1) xs
drop_at xs place x e = drop_suc xs place x e ∙ ap (λ n. x ∷ drop n xs) (let same : suc place ≡ place + 1 = omega arith in same)

pub drop_all : {T : Type 0} (xs : List T) (place : ℕ) → length xs ≤ place → drop place xs ≡ []
drop_all [] zero past = refl
drop_all [] (suc place) past = refl
drop_all (x ∷ xs) zero past = absurd (omega arith)
drop_all (x ∷ xs) (suc place) past = drop_all xs place (omega arith)

-- one more token is counted
pub counted_branch : (code : List Token) (place count bit : ℕ) (first : Bool) → slice_get code place ≡ Some (Branch bit first)
    → count + branch_count (drop place code) ≡ branch_count code → (count + 1) + branch_count (drop (place + 1) code) ≡ branch_count code
counted_branch code place count bit first is before =
    let e = ap branch_count (drop_at code place (Branch bit first) is) in omega arith

pub counted_leaf : (code : List Token) (place count : ℕ) → slice_get code place ≡ Some Leaf
    → count + branch_count (drop place code) ≡ branch_count code → count + branch_count (drop (place + 1) code) ≡ branch_count code
counted_leaf code place count is before =
    let e = ap branch_count (drop_at code place Leaf is) in omega arith

pub counted_all : (code : List Token) (place count : ℕ) → length code ≤ place
    → count + branch_count (drop place code) ≡ branch_count code → count ≡ branch_count code
counted_all code place count past before =
    let e = ap branch_count (drop_all code place past) in omega arith

-- one more token
pub read_more : (old new : Examined) (code rest more : List Token) (token : Token) (ds after : List Decision)
    → IsSameAim old new → IsReadTo old code rest (reading_of old ds) → rest ≡ token ∷ more
    → IsStride token old new ds after Goes → IsReadTo new code more (reading_of new after)
read_more old new code rest more token ds after same before is stride =
    subst (λ e. IsReadTo e code more (reading_of new after)) (sym same)
    (λ to. (
      λ reads. (stride.1 more to).0 (subst (λ r. Reads (rules_of old) r (reading_of old ds) to) is ((before to).0 reads)),
      λ reads. (before to).1 (subst (λ r. Reads (rules_of old) r (reading_of old ds) to) (sym is) ((stride.1 more to).1 reads)),
    ))

-- an unlawful token
pub read_falls : (old new : Examined) (code rest more : List Token) (token : Token) (ds after : List Decision)
    → IsSameAim old new → IsReadTo old code rest (reading_of old ds) → rest ≡ token ∷ more
    → IsStride token old new ds after Falls → IsUnlawful new code
read_falls old new code rest more token ds after same before is stride =
    subst (λ e. IsUnlawful e code) (sym same)
    (λ to reads. stride more to (subst (λ r. Reads (rules_of old) r (reading_of old ds) to) is ((before to).0 reads)))

nothing_after : (rules : Rules) (rest : List Token) (to : Reading) → 0 < length rest → Reads rules rest Ended to → ⊥
nothing_after rules [] to some reads = omega arith
nothing_after rules (token ∷ rest) to some reads = reads

ends_by : (old : Examined) (code more : List Token) (is_last : Bool) → (is_last ≡ true → more ≡ [])
    → (is_last ≡ false → 0 < length more)
    → ((to : Reading) → Reads (rules_of old) code (start_of old) to ↔ Reads (rules_of old) more Ended to)
    → IsEnd old code (end_by is_last)
ends_by old code more true last not_last reads = (reads Ended).1
    (subst (λ m. Reads (rules_of old) m Ended Ended) (sym (last refl)) refl)
ends_by old code more false last not_last reads = λ to all. nothing_after (rules_of old) more to (not_last refl) ((reads to).0 all)

-- the tree of the code ends
pub read_ends : (old new : Examined) (code rest more : List Token) (token : Token) (ds after : List Decision) (is_last : Bool)
    → IsSameAim old new → IsReadTo old code rest (reading_of old ds) → rest ≡ token ∷ more
    → IsStride token old new ds after Ends → (is_last ≡ true → more ≡ []) → (is_last ≡ false → 0 < length more)
    → IsEnd new code (end_by is_last)
read_ends old new code rest more token ds after is_last same before is stride last not_last =
    subst (λ e. IsEnd e code (end_by is_last)) (sym same)
    (at is_last (ends_by old code more is_last last not_last (λ to. (
      λ reads. (stride more to).0 (subst (λ r. Reads (rules_of old) r (reading_of old ds) to) is ((before to).0 reads)),
      λ reads. (before to).1 (subst (λ r. Reads (rules_of old) r (reading_of old ds) to) (sym is) ((stride more to).1 reads)),
    ))))
  where
    at : (b : Bool) → IsEnd old code (end_by b) → IsEnd (with_pair old new.pair) code (end_by b)
    at true whole = whole
    at false unlawful = unlawful

-- all tokens were read, and the tree hasn't ended
pub read_all : (now : Examined) (code rest : List Token) (ds : List Decision) → IsReadTo now code rest (reading_of now ds)
    → rest ≡ [] → IsFrontBy (rules_of now) now.chip code now.pair
read_all now code rest ds before none = record {
  later = still_later now ds;
  reads = (before (reading_of now ds)).1 (subst (λ r. Reads (rules_of now) r (reading_of now ds) (reading_of now ds)) (sym none) refl);
}

-- where a reading ends is determined
reads_once : (rules : Rules) (code : List Token) (from one other : Reading) → Reads rules code from one
    → Reads rules code from other → one ≡ other
reads_once rules [] from one other here there = sym here ∙ there
reads_once rules (token ∷ code) (At pair later) one other here there =
    reads_once rules code (following token pair later) one other here.1 there.1
reads_once rules (token ∷ code) Ended one other here there = absurd here

front_not_whole : (now : Examined) (code : List Token) (pair : List Trit) → IsFrontBy (rules_of now) now.chip code pair
    → IsWholeBy (rules_of now) now.chip code → ⊥
front_not_whole now code pair front whole =
    let clash = reads_once (rules_of now) code (start_of now) _ _ front.reads whole in cc

-- what is no whole code
pub not_whole : (now : Examined) (code : List Token) (end : CodeEnd) → IsEnd now code end → (end ≡ Whole → ⊥)
    → IsWholeBy (rules_of now) now.chip code → ⊥
not_whole now code Unlawful is other whole = is Ended whole
not_whole now code Whole is other whole = other refl
not_whole now code Front is other whole = front_not_whole now code now.pair is whole

-- what is no front is not spent
pub not_spent : (now : Examined) (code : List Token) (budget : ℕ) (end : CodeEnd) → IsEnd now code end → (end ≡ Front → ⊥)
    → IsSpentBy (rules_of now) now.chip budget code → ⊥
not_spent now code budget Unlawful is other spent = is _ spent.front.reads
not_spent now code budget Whole is other spent = front_not_whole now code spent.pair spent.front is
not_spent now code budget Front is other spent = other refl

-- a front is spent where it has as many branches as the budget, and one more may stand
pub spent_of : (now : Examined) (code : List Token) (budget : ℕ) → IsFrontBy (rules_of now) now.chip code now.pair
    → branch_count code ≡ budget → MayGoOn now → IsSpentBy (rules_of now) now.chip budget code
spent_of now code budget front counted on = record {
  pair = now.pair;
  front = front;
  spent = counted;
  bit = on.bit;
  goes_on = on.may;
}

pub spent_goes_on : (now : Examined) (code : List Token) (budget : ℕ) → IsFrontBy (rules_of now) now.chip code now.pair
    → IsSpentBy (rules_of now) now.chip budget code → MayGoOn now
spent_goes_on now code budget front spent =
    let same = reads_once (rules_of now) code (start_of now) _ _ spent.front.reads front.reads in
    let pairs : spent.pair ≡ now.pair = cc in
    record { bit = spent.bit; may = subst (λ p. (rules_of now).branch p spent.bit) pairs spent.goes_on }

-- whether a place is the end of the code
pub last_by : (code : List Token) (place count : ℕ) → count ≡ length code → eqb place count ≡ true → drop place code ≡ []
last_by code place count is test = drop_all code place (let e = eqb-true place count test in omega arith)

drop_some : {T : Type 0} (xs : List T) (place : ℕ) → place < length xs → 0 < length (drop place xs)
drop_some [] place lt = absurd (omega arith)
drop_some (x ∷ xs) zero lt = omega arith
drop_some (x ∷ xs) (suc place) lt = drop_some xs place (omega arith)

pub more_by : (code : List Token) (place count : ℕ) → count ≡ length code → place ≤ count → eqb place count ≡ false
    → 0 < length (drop place code)
more_by code place count is within test = drop_some code place (let far = eqb-false place count test in omega (arith, far))
