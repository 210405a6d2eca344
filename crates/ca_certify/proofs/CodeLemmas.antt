-- What the codes of searches are to claims, and that a search for an untestable defect finds nothing.
use Rattle.std.proofs.Common.{◌≡◌, ℕ, ◌+◌, ◌<◌, ◌≤◌, ◌⊎◌, List, [], ◌∷◌, length, Option, Some, None, inl, inr, refl, sym, subst, arith}
use Rattle.std.specs.Prelude.{All, IsSomeAnd}
use Rattle.std.proofs.lemmas.List.Elements.{All-nil, All-cons}
use Rattle.std.proofs.lemmas.Option.{slice_get_within}
use Rattle.ca_code.specs.declared.token.TheConstants.{MOST_PATTERN_BITS}
use Rattle.ca_code.specs.Tokens.{IsNarrow}
use Rattle.ca_flat.specs.declared.chip_defect.ChipDefect.{ChipDefect}
use Rattle.ca_flat.specs.declared.token.Token.{Token}
use Rattle.ca_flat.specs.declared.token.Token.TheVariants.{Branch, Leaf}
use Rattle.ca_flat.specs.Chip.{Chip}
use Rattle.ca_flat.specs.Pair.{bit_count}
use Rattle.ca_flat.specs.Chain.{IsSupportBit}
use Rattle.ca_flat.specs.Codes.{Reading, At, Ended, following, after_tree, Reads, IsSpentBy, branch_count}
use Rattle.ca_flat.proofs.CheckedCodes.{reads_wider}
use Rattle.ca_code.specs.SearchRules.{search_rules}
use Rattle.ca_search.specs.declared.trail.Outcome.TheVariants.{Found, Exhausted, Spent}
use Rattle.ca_search.specs.Judged.{Judged, IsSameAim, with_pair}
use Rattle.ca_search.specs.Outcome.{IsOutcome}
use Rattle.ca_code.specs.Filled.{filled}
use Rattle.ca_code.proofs.RuleLemmas.{search_codes_are_codes_lem}
use Rattle.ca_credit.specs.Defects.{IsSearchable}
use Rattle.ca_search.specs.Ends.{judged_for}
use Rattle.ca_search.proofs.EndLemmas.{outcome_is_search_lem}
use Rattle.ca_generate.proofs.FoundLemmas.{found_detects, length-found, found_pair}
use Rattle.ca_certify.specs.Laws.{SearchCodesAreClaimed}
use Rattle.ca_claim.specs.declared.claim.Claim.TheVariants.{Untestable, Aborted}
use Rattle.ca_certify.specs.code.Claimed.{IsHopeless, IsSearchClaim}

-- the rules of a claim are those of a search, but that a branch may stand at a plainly ruled out pair
pub search_codes_are_claimed_lem : SearchCodesAreClaimed
search_codes_are_claimed_lem chip defect code = record {
  whole = λ reads. reads_wider _ _ (λ pair leaf. leaf) (λ pair bit decide. decide.may) code _ _ reads;
  spent = λ budget spent. record {
    pair = spent.pair;
    front = record {
      later = spent.front.later;
      reads = reads_wider _ _ (λ pair leaf. leaf) (λ pair bit decide. decide.may) code _ _ spent.front.reads;
    };
    spent = spent.spent;
    bit = spent.bit;
    goes_on = spent.goes_on.may;
  };
}

-- a bit of the support is one of the chip
support_within : (chip : Chip) (defect : ChipDefect) (bit : ℕ) → IsSupportBit chip defect bit → bit < bit_count chip
support_within chip defect bit is = by is.is_bit
  where
    within : is.place < length chip.inputs
    within = slice_get_within chip.inputs is.place is.net is.is_input

    by : (bit ≡ is.place) ⊎ (bit ≡ length chip.inputs + is.place) → bit < bit_count chip
    by (inl e) = omega (arith, e, within)
    by (inr e) = omega (arith, e, within)

-- so the tokens of a search fit into two bytes
pub narrow_tokens : (chip : Chip) (defect : ChipDefect) (code : List Token) (from to : Reading) → bit_count chip ≤ MOST_PATTERN_BITS
    → Reads (search_rules chip defect) code from to → All IsNarrow code
narrow_tokens chip defect [] from to few reads = All-nil IsNarrow
narrow_tokens chip defect (token ∷ code) Ended to few reads = absurd reads
narrow_tokens chip defect (Leaf ∷ code) (At pair later) to few reads =
    All-cons IsNarrow Leaf code tt (narrow_tokens chip defect code (after_tree later) to few reads.1)
narrow_tokens chip defect (Branch bit first ∷ code) (At pair later) to few reads =
    let within = support_within chip defect bit reads.0.may.supports in
    All-cons IsNarrow (Branch bit first) code (omega (arith, within, few))
    (narrow_tokens chip defect code (following (Branch bit first) pair later) to few reads.1)

-- no search finds a pair for a defect that no pair detects
pub nothing_found : (judged : Judged) (budget : ℕ) (code : List Token) (defect : ChipDefect) → judged.aim ≡ Some defect
    → IsHopeless judged.chip defect → branch_count code ≤ budget → IsOutcome judged budget code Found → ⊥
nothing_found judged budget code defect aimed known within outcome =
    let chip = judged.chip in
    let here : IsOutcome (judged_for chip judged.places defect judged.pair) budget code Found =
    subst (λ (aim : Option ChipDefect). IsOutcome (record { chip = judged.chip; places = judged.places; aim = aim; pair = judged.pair })
    budget code Found) aimed outcome in
    let searchable = known.searchable in
    let search = outcome_is_search_lem chip searchable.rank budget judged.places defect code judged.pair Found searchable.is_flat within here in
    let found = found_pair chip budget defect code judged.pair (filled judged.pair) within search.ends refl in
    known.untestable (filled judged.pair) (length-found chip budget defect (filled judged.pair) found)
    (found_detects chip budget defect (filled judged.pair) found)

module _ (judged : Judged) (budget : ℕ) (code : List Token) (defect : ChipDefect) (aimed : judged.aim ≡ Some defect) where
  -- a search that came to an end proves its claim
  pub exhausted_claim : IsOutcome judged budget code Exhausted → IsSearchClaim judged.chip budget defect (Untestable code)
  exhausted_claim outcome = subst (λ (aim : Option ChipDefect). IsOutcome (record { chip = judged.chip; places = judged.places; aim = aim; pair = judged.pair })
      budget code Exhausted) aimed outcome

  -- so does one that spent its budget
  pub spent_claim : IsSearchable judged.chip defect → IsOutcome judged budget code Spent → IsSearchClaim judged.chip budget defect (Aborted code)
  spent_claim searchable outcome =
      let here : IsSpentBy (search_rules judged.chip defect) judged.chip budget code =
      subst (λ (aim : Option ChipDefect). IsOutcome (record { chip = judged.chip; places = judged.places; aim = aim; pair = judged.pair })
      budget code Spent) aimed outcome in
      record {
        spent = (search_codes_are_codes_lem judged.chip searchable.rank defect code searchable.is_flat).spent budget here;
        checked = here;
      }

-- the defect that is aimed at, and what is so of it
record IsAimed (aim : Option ChipDefect) (P : ChipDefect → Type 0) : Type 0 where
  pub defect : ChipDefect
  pub is : aim ≡ Some defect
  pub holds : P defect

aimed_at : (aim : Option ChipDefect) (P : ChipDefect → Type 0) → IsSomeAnd aim P → IsAimed aim P
aimed_at None P is = absurd is
aimed_at (Some defect) P is = record { defect = defect; is = refl; holds = is }

module _ (old new : Judged) (aimed : IsSomeAnd old.aim (IsHopeless old.chip)) (same : IsSameAim old new) where
  at : IsAimed old.aim (IsHopeless old.chip)
  at = aimed_at old.aim (IsHopeless old.chip) aimed

  -- a search for a hopeless defect that was aimed at before it finds nothing
  pub aimed_finds_nothing : (budget : ℕ) (code : List Token) → branch_count code ≤ budget → IsOutcome new budget code Found → ⊥
  aimed_finds_nothing budget code within outcome = nothing_found (with_pair old new.pair) budget code at.defect at.is at.holds within
      (subst (λ (judged : Judged). IsOutcome judged budget code Found) same outcome)

  -- where it came to an end, the code that is kept proves its claim
  pub aimed_exhausted : (budget was : ℕ) (code kept : List Token) → budget ≡ was → kept ≡ code → IsOutcome new budget code Exhausted
      → IsSomeAnd old.aim (λ defect. IsSearchClaim old.chip was defect (Untestable kept))
  aimed_exhausted budget was code kept is_budget is_code outcome =
      let here = subst (λ (judged : Judged). IsOutcome judged budget code Exhausted) same outcome in
      let claim = exhausted_claim (with_pair old new.pair) budget code at.defect at.is here in
      let kept_claim : IsSearchClaim old.chip was at.defect (Untestable kept) =
      subst (λ (c : List Token). IsSearchClaim old.chip was at.defect (Untestable c)) (sym is_code) claim in
      subst (λ (aim : Option ChipDefect). IsSomeAnd aim (λ defect. IsSearchClaim old.chip was defect (Untestable kept))) (sym at.is) kept_claim

  -- so it does where the budget is spent
  pub aimed_spent : (budget was : ℕ) (code kept : List Token) → budget ≡ was → kept ≡ code → IsOutcome new budget code Spent
      → IsSomeAnd old.aim (λ defect. IsSearchClaim old.chip was defect (Aborted kept))
  aimed_spent budget was code kept is_budget is_code outcome =
      let here = subst (λ (judged : Judged). IsOutcome judged budget code Spent) same outcome in
      let claim = spent_claim (with_pair old new.pair) budget code at.defect at.is at.holds.searchable here in
      let with_budget : IsSearchClaim old.chip was at.defect (Aborted code) =
      subst (λ (b : ℕ). IsSearchClaim old.chip b at.defect (Aborted code)) is_budget claim in
      let kept_claim : IsSearchClaim old.chip was at.defect (Aborted kept) =
      subst (λ (c : List Token). IsSearchClaim old.chip was at.defect (Aborted c)) (sym is_code) with_budget in
      subst (λ (aim : Option ChipDefect). IsSomeAnd aim (λ defect. IsSearchClaim old.chip was defect (Aborted kept))) (sym at.is) kept_claim
