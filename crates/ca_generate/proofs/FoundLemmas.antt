-- What a front and a whole code say of definite pairs.
use Rattle.std.proofs.Common.{◌≡◌, ℕ, zero, suc, ◌<◌, ◌≤◌, List, [], ◌∷◌, length, Bool, true, false, inl, refl}
use Rattle.std.proofs.Common.{sym, ◌∙◌, ap, subst, arith}
use Rattle.std.specs.Prelude.{not, replicate}
use Rattle.std.proofs.lemmas.List.{length-replicate, length-set, length-map}
use Rattle.ca_net.specs.declared.trit.Trit.{Trit}
use Rattle.ca_net.specs.declared.trit.Trit.TheVariants.{X}
use Rattle.ca_net.specs.Trit.{IsBelow}
use Rattle.ca_net.specs.State.{value_at}
use Rattle.ca_flat.specs.declared.chip_defect.ChipDefect.{ChipDefect}
use Rattle.ca_flat.specs.declared.token.Token.{Token}
use Rattle.ca_flat.specs.declared.token.Token.TheVariants.{Branch, Leaf}
use Rattle.ca_flat.specs.Chip.{Chip}
use Rattle.ca_flat.specs.Pair.{bit_count}
use Rattle.ca_flat.specs.Codes.{Reading, At, Ended, unset_pair, bit_trit, following, Rules, Reads, IsFrontBy}
use Rattle.ca_flat.specs.Codes.{branch_count, IsWholeCode}
use Rattle.ca_flat.proofs.Codes.{whole_is_ruled_out_lem}
use Rattle.ca_code.specs.Ends.{IsShownFront}
use Rattle.ca_code.specs.Filled.{trits_of, filled_bit, filled}
use Rattle.ca_code.proofs.FilledLemmas.{filled_is_shown_lem}
use Rattle.ca_credit.specs.Detection.{Detects, IsUntestable}
use Rattle.ca_credit.specs.Listed.{IsFoundFor}

-- all these pairs have `count` bits
abbrev AllOf : ℕ → List (List Trit) → Type 0
AllOf count [] = Unit {0}
AllOf count (pair ∷ later) = (length pair ≡ count) × AllOf count later

-- so has each pair of the reading
abbrev ReadsOf : ℕ → Reading → Type 0
ReadsOf count (At pair later) = (length pair ≡ count) × AllOf count later
ReadsOf count Ended = Unit {0}

after_of : (count : ℕ) (token : Token) (pair : List Trit) (later : List (List Trit)) → length pair ≡ count → AllOf count later
    → ReadsOf count (following token pair later)
after_of count (Branch bit first) pair later sized all =
    (length-set pair bit (bit_trit first) ∙ sized, (length-set pair bit (bit_trit (not first)) ∙ sized, all))
after_of count Leaf pair [] sized all = tt
after_of count Leaf pair (next ∷ later) sized all = all

reads_of : (rules : Rules) (count : ℕ) (tokens : List Token) (from to : Reading) → ReadsOf count from → Reads rules tokens from to
    → ReadsOf count to
reads_of rules count [] from to sized reads = subst (ReadsOf count) reads sized
reads_of rules count (token ∷ tokens) (At pair later) to sized reads =
    reads_of rules count tokens (following token pair later) to (after_of count token pair later sized.0 sized.1) reads.1
reads_of rules count (token ∷ tokens) Ended to sized reads = absurd reads

-- the next partial pair of a front has a value for each bit
pub length-front : (rules : Rules) (chip : Chip) (code : List Token) (pair : List Trit) → IsFrontBy rules chip code pair
    → length pair ≡ bit_count chip
length-front rules chip code pair front =
    (reads_of rules (bit_count chip) code (At (unset_pair chip) []) (At pair front.later) (length-replicate (bit_count chip) X, tt) front.reads).0

known_bits : (pair : List Bool) (bit : ℕ) → bit < length pair → value_at (trits_of pair) bit ≡ X → ⊥
known_bits [] bit within = absurd (omega arith)
known_bits (true ∷ pair) zero within = λ e. cc
known_bits (false ∷ pair) zero within = λ e. cc
known_bits (value ∷ pair) (suc bit) within = known_bits pair bit (omega arith)

-- the pair that was found detects the defect
pub found_detects : (chip : Chip) (budget : ℕ) (defect : ChipDefect) (pair : List Bool)
    → IsFoundFor chip budget defect pair → Detects chip defect pair
found_detects chip budget defect pair found =
    subst (Detects chip defect) (sym found.fills) (filled_is_shown_lem chip defect found.partial
    (length-front _ chip found.code found.partial found.front) found.shown)

-- it has a value for each bit
pub length-found : (chip : Chip) (budget : ℕ) (defect : ChipDefect) (pair : List Bool)
    → IsFoundFor chip budget defect pair → length pair ≡ bit_count chip
length-found chip budget defect pair found =
    ap length found.fills ∙ length-map found.partial filled_bit
    ∙ length-front _ chip found.code found.partial found.front

unset_below : (count : ℕ) (whole : List Trit) (n : ℕ) → IsBelow (value_at (replicate count X) n) (value_at whole n)
unset_below count whole n = inl (unset_at count n)
  where
    unset_at : (count n : ℕ) → value_at (replicate count X) n ≡ X
    unset_at zero n = refl
    unset_at (suc count) zero = refl
    unset_at (suc count) (suc n) = unset_at count n

-- a whole code shows that no definite pair detects the defect
pub whole_is_untestable : (chip : Chip) (defect : ChipDefect) (code : List Token) → IsWholeCode chip defect code → IsUntestable chip defect
whole_is_untestable chip defect code whole pair sized = whole_is_ruled_out_lem chip defect code whole (trits_of pair) (record {
  above = λ n. unset_below (bit_count chip) (trits_of pair) n;
  sets_all = λ bit within. known_bits pair bit (omega arith);
})

-- the pair that a search has found
pub found_pair : (chip : Chip) (budget : ℕ) (defect : ChipDefect) (code : List Token) (partial : List Trit)
    (pair : List Bool) → branch_count code ≤ budget → IsShownFront chip defect code partial → pair ≡ filled partial
    → IsFoundFor chip budget defect pair
found_pair chip budget defect code partial pair within ends fills = record {
  partial = partial;
  code = code;
  front = ends.front;
  within = within;
  shown = ends.shown;
  fills = fills;
}
