-- A text is one file of patterns of a chip at most, and has one cause at most.
use Rattle.std.proofs.Common.{ℕ, ◌≡◌, ◌≤◌, ◌<◌, ◌⊎◌, ◌∙◌, inl, inr, refl, sym, ap, subst, List, length, Option, Some, None}
use Rattle.std.proofs.Common.{Bool, arith}
use Rattle.std.specs.Prelude.{IsSomeAnd}
use Rattle.ca_store.specs.Store.{Files}
use Rattle.ca_linked.specs.Linked.{LinkedChip}
use Rattle.ca_view.specs.Core.{core_of}
use Rattle.ca_scan.specs.ChainFault.{AreAllChains}
use Rattle.ca_expected.specs.Expected.{AreExpected}
use Rattle.ca_expected.specs.Wrong.{IsFirstWrong}
use Rattle.ca_stil_form.specs.Value.{stil_value}
use Rattle.ca_stil_pairs.specs.declared.file.StilFile.{StilFile}
use Rattle.ca_stil_pairs.specs.Chip.{chip_part}
use Rattle.ca_stil_pairs.specs.Laws.{Has}
use Rattle.ca_stil_pairs.proofs.UniqueLemmas.{one_file}
use Rattle.ca_stil_read.specs.Line.{fault_line}
use Rattle.ca_net.specs.declared.trit.Trit.{Trit}
use Rattle.ca_chip_stil.specs.ChipStil.{stil_chip}
use Rattle.ca_chip_pairs.proofs.CoverLemmas.{covered}
use Rattle.ca_fault.specs.declared.fault.LimitKind.TheVariants as limit
use Rattle.ca_fault.specs.declared.fault.Fault.{Fault}
use Rattle.ca_fault.specs.declared.fault.Fault.TheVariants.{Stil, StilChip, Expected, Limit}
use Rattle.ca_load.specs.Files.{OfFile, IsReadCause}
use Rattle.ca_load.proofs.WholeLemmas.{IsOutsideFault, at_read}
use Rattle.ca_patterns.specs.declared.patterns.TheConstants.{MAX_STIL}
use Rattle.ca_patterns.specs.Patterns.{IsPatternsOf, AreFew, IsStilCause, FitsPatterns}

module _ (chip : LinkedChip) (chains : List (List ℕ)) (all : AreAllChains chip chains) (bytes : List ℕ) where
  -- two files that a text is have the same pairs and expected values
  pub same_file : (file other : StilFile) → IsPatternsOf chip chains file bytes → IsPatternsOf chip chains other bytes
      → Has file other.pairs other.expected
  same_file file other is also =
      let both = sym is.reads ∙ also.reads in
      let same : stil_value (stil_chip chip chains) file.pairs file.expected
      ≡ stil_value (stil_chip chip chains) other.pairs other.expected = cc in
      one_file (stil_chip chip chains) file other.pairs other.expected (covered chip chains all) is.are also.are same

  -- a text that is a file has no faulty line
  no_fault : (line : ℕ) (file : StilFile) → IsStilCause chip chains (Stil line) bytes → IsPatternsOf chip chains file bytes → ⊥
  no_fault line file cause is = let both = sym is.reads ∙ cause.faulty in cc

  -- too many pairs aren't few
  not_few : (count : ℕ) → IsStilCause chip chains (Limit limit.Pairs count) bytes → (file : StilFile) → IsPatternsOf chip chains file bytes
      → AreFew file → ⊥
  not_few count cause file is few =
      let same = same_file file cause.file is cause.is in
      let long = ap length same.pairs_are in
      let many = cause.many in
      let counted = cause.counted in
      omega (arith, few, long, many, counted)

  -- a text of the chip is of no other
  not_other : (file : StilFile) → IsPatternsOf chip chains file bytes → IsStilCause chip chains StilChip bytes → ⊥
  not_other file is cause =
      let both = sym is.reads ∙ cause.reads in
      let same : cause.value ≡ stil_value (stil_chip chip chains) file.pairs file.expected = cc in
      cause.other (ap chip_part same)

  -- values that are right aren't wrong
  not_wrong : (pair output : ℕ) (pairs : List (List Bool)) (expected : List _) → AreExpected (core_of chip) pairs expected
      → IsFirstWrong (core_of chip) pairs expected (record { pair = pair; output = output }) → ⊥
  not_wrong pair output pairs expected right wrong =
      let here = wrong.here in
      here.here ((right.each pair wrong.within).each output here.within)

  -- a text that has right patterns has no cause
  pub no_cause : (file : StilFile) → IsPatternsOf chip chains file bytes → AreFew file
      → AreExpected (core_of chip) file.pairs file.expected → (fault : Fault) → IsStilCause chip chains fault bytes → ⊥
  no_cause file is few right (Stil line) cause = no_fault line file cause is
  no_cause file is few right StilChip cause = not_other file is cause
  no_cause file is few right (Limit limit.Pairs count) cause = not_few count cause file is few
  no_cause file is few right (Expected pair output) cause =
      let same = same_file file cause.file is cause.is in
      not_wrong pair output cause.file.pairs cause.file.expected (rw (same.pairs_are, same.expected_are) at right) cause.wrong
  no_cause file is few right fault cause = cause

  -- the first wrong value is one
  one_wrong : (pairs : List (List Bool)) (expected : List (List Trit)) (pair output also_pair also_output : ℕ)
      → IsFirstWrong (core_of chip) pairs expected (record { pair = pair; output = output })
      → IsFirstWrong (core_of chip) pairs expected (record { pair = also_pair; output = also_output })
      → Expected pair output ≡ Expected also_pair also_output
  one_wrong pairs expected pair output also_pair also_output here there =
      let one : pair ≡ also_pair = omega (
        arith,
        not_before pair output also_pair also_output here there,
        not_before also_pair also_output pair output there here,
      ) in
      let there_too : IsFirstWrong (core_of chip) pairs expected (record { pair = pair; output = also_output }) =
      subst (λ (k : ℕ). IsFirstWrong (core_of chip) pairs expected (record { pair = k; output = also_output })) (sym one) there in
      let two : output ≡ also_output = omega (arith, not_less output also_output here there_too, not_less also_output output there_too here) in
      λ j. Expected (one j) (two j)
    where
      not_before : (p o q r : ℕ) → IsFirstWrong (core_of chip) pairs expected (record { pair = p; output = o })
          → IsFirstWrong (core_of chip) pairs expected (record { pair = q; output = r }) → p < q → ⊥
      not_before p o q r first later less =
          let wrong = first.here in
          wrong.here ((later.before p less).each o wrong.within)

      not_less : (o r : ℕ) → IsFirstWrong (core_of chip) pairs expected (record { pair = pair; output = o })
          → IsFirstWrong (core_of chip) pairs expected (record { pair = pair; output = r }) → o < r → ⊥
      not_less o r first later less = let wrong = first.here in let other = later.here in wrong.here (other.before o less)

  -- so a text has one cause
  pub one_stil : (fault other : Fault) → IsStilCause chip chains fault bytes → IsStilCause chip chains other bytes → fault ≡ other
  one_stil (Stil line) (Stil also) here there =
      let both = sym here.faulty ∙ there.faulty in
      let left : here.left ≡ there.left = cc in
      ap Stil (here.is_line ∙ ap (fault_line bytes) left ∙ sym there.is_line)
  one_stil (Stil line) StilChip here there = absurd (let both = sym here.faulty ∙ there.reads in cc)
  one_stil (Stil line) (Limit limit.Pairs count) here there = absurd (no_fault line there.file here there.is)
  one_stil (Stil line) (Expected pair output) here there = absurd (no_fault line there.file here there.is)
  one_stil (Stil line) other here there = absurd there
  one_stil StilChip (Stil line) here there = absurd (let both = sym there.faulty ∙ here.reads in cc)
  one_stil StilChip StilChip here there = refl
  one_stil StilChip (Limit limit.Pairs count) here there = absurd (not_other there.file there.is here)
  one_stil StilChip (Expected pair output) here there = absurd (not_other there.file there.is here)
  one_stil StilChip other here there = absurd there
  one_stil (Limit limit.Pairs count) (Stil line) here there = absurd (no_fault line here.file there here.is)
  one_stil (Limit limit.Pairs count) StilChip here there = absurd (not_other here.file here.is there)
  one_stil (Limit limit.Pairs count) (Limit limit.Pairs other) here there =
      let same = same_file here.file there.file here.is there.is in
      ap (Limit limit.Pairs) (here.counted ∙ ap length same.pairs_are ∙ sym there.counted)
  one_stil (Limit limit.Pairs count) (Expected pair output) here there = absurd (not_few count here there.file there.is there.few)
  one_stil (Limit limit.Pairs count) other here there = absurd there
  one_stil (Expected pair output) (Stil line) here there = absurd (no_fault line here.file there here.is)
  one_stil (Expected pair output) StilChip here there = absurd (not_other here.file here.is there)
  one_stil (Expected pair output) (Limit limit.Pairs count) here there = absurd (not_few count there here.file here.is here.few)
  one_stil (Expected pair output) (Expected also_pair also_output) here there =
      let same = same_file here.file there.file here.is there.is in
      one_wrong there.file.pairs there.file.expected pair output also_pair also_output
      (rw (same.pairs_are, same.expected_are) at here.wrong) there.wrong
  one_stil (Expected pair output) other here there = absurd there
  one_stil fault other here there = absurd here

module _ (files : Option Files) (reported : Files) (are : files ≡ Some reported) (name : List ℕ) (chip : LinkedChip)
    (chains : List (List ℕ)) (all : AreAllChains chip chains) (fits : FitsPatterns reported name chip chains) where
  -- neither has a file that has them
  pub no_file_cause : (fault : Fault) → OfFile files name MAX_STIL (IsStilCause chip chains fault) → ⊥
  no_file_cause fault held = by (reported name) fits.there (held reported are)
    where
      by : (there : Option (List ℕ)) → IsSomeAnd there (λ bytes. (length bytes ≤ MAX_STIL) × IsPatternsOf chip chains fits.file bytes)
          → IsSomeAnd there (λ bytes. (length bytes ≤ MAX_STIL) × IsStilCause chip chains fault bytes) → ⊥
      by None is cause = cause
      by (Some bytes) (within, is) (also, cause) = no_cause chip chains all bytes fits.file is fits.few fits.right fault cause

  -- it is read
  pub is_read : (before after : ℕ) (fault : Fault) → IsReadCause name files MAX_STIL before after fault
      → IsOutsideFault fault before after
  is_read before after fault cause = by (reported name) refl fits.there
    where
      by : (there : Option (List ℕ)) → reported name ≡ there
          → IsSomeAnd there (λ bytes. (length bytes ≤ MAX_STIL) × IsPatternsOf chip chains fits.file bytes) → IsOutsideFault fault before after
      by None is missing = absurd missing
      by (Some bytes) is (within, held) = at_read files reported are before after name bytes MAX_STIL is within fault cause
