-- A pair that a search found has all pattern bits of the chip.
use Rattle.std.proofs.Common.{◌≡◌, ℕ, ◌*◌, Bool, not, List, [], ◌∷◌, length, Option, Some, sym, ◌∙◌, ap, subst}
use Rattle.std.proofs.Common.{arith, get_or}
use Rattle.std.specs.Prelude.{slice_get}
use Rattle.std.proofs.lemmas.List.{length-map, length-replicate, length-set}
use Rattle.std.proofs.lemmas.List.Elements.{All-from_get_or}
use Rattle.std.proofs.lemmas.Option.{slice_get-get_or, slice_get_within}
use Rattle.ca_net.specs.declared.trit.Trit.{Trit}
use Rattle.ca_net.specs.declared.trit.Trit.TheVariants.{X}
use Rattle.ca_flat.specs.declared.token.Token.{Token}
use Rattle.ca_flat.specs.declared.token.Token.TheVariants.{Branch, Leaf}
use Rattle.ca_flat.specs.Pair.{bit_count}
use Rattle.ca_flat.specs.Codes.{Reading, At, Ended, Rules, Reads, following, after_tree, unset_pair, bit_trit}
use Rattle.ca_flat.specs.Codes.{with_bit, code_rules}
use Rattle.ca_code.specs.Filled.{filled_bit}
use Rattle.ca_credit.specs.Defects.{Task, AreTargets}
use Rattle.ca_credit.specs.Listed.{IsAim}
use Rattle.ca_expected.specs.Laws.{AimedPairsAreWhole}

-- the partial pairs of a reading have this many bits
AreWide : ℕ → List (List Trit) → Type 0
AreWide count [] = Unit {0}
AreWide count (pair ∷ later) = (length pair ≡ count) × AreWide count later

IsWideReading : ℕ → Reading → Type 0
IsWideReading count Ended = Unit {0}
IsWideReading count (At pair later) = (length pair ≡ count) × AreWide count later

wide_tree : (count : ℕ) (later : List (List Trit)) → AreWide count later → IsWideReading count (after_tree later)
unfolding AreWide IsWideReading
wide_tree count [] wide = tt
wide_tree count (pair ∷ later) wide = wide

wide_bit : (count : ℕ) (pair : List Trit) (bit : ℕ) (value : Bool) → length pair ≡ count → length (with_bit pair bit value) ≡ count
wide_bit count pair bit value wide = length-set pair bit (bit_trit value) ∙ wide

wide_after : (count : ℕ) (token : Token) (pair : List Trit) (later : List (List Trit)) → length pair ≡ count → AreWide count later
    → IsWideReading count (following token pair later)
unfolding AreWide IsWideReading
wide_after count (Branch bit first) pair later here wide = (wide_bit count pair bit first here, (wide_bit count pair bit (not first) here, wide))
wide_after count Leaf pair later here wide = wide_tree count later wide

wide_reads : (rules : Rules) (count : ℕ) (tokens : List Token) (from to : Reading) → Reads rules tokens from to → IsWideReading count from → IsWideReading count to
unfolding IsWideReading
wide_reads rules count [] from to reads wide = subst (IsWideReading count) reads wide
wide_reads rules count (token ∷ tokens) Ended to reads wide = absurd reads
wide_reads rules count (token ∷ tokens) (At pair later) to reads wide =
    wide_reads rules count tokens (following token pair later) to reads.1 (wide_after count token pair later wide.0 wide.1)

pair_whole : (task : Task) (pairs : List (List Bool)) (number aim : ℕ) (pair : List Bool) → AreTargets task → IsAim task pairs number aim
    → slice_get pairs number ≡ Some pair → length pair ≡ bit_count task.chip
unfolding AreWide IsWideReading
pair_whole task pairs number aim pair targets is at =
    let chip = task.chip_of aim in
    let stands = targets aim (slice_get_within task.defects aim is.found_at.defect is.found_at.is_defect) in
    let found = is.found_at.found in
    let reads = wide_reads (code_rules chip is.found_at.defect) (bit_count chip) found.code (At (unset_pair chip) []) (At found.partial found.front.later)
    found.front.reads (length-replicate (bit_count chip) X, tt) in
    let same : ◌≡◌ {A = Option (List Bool)} (Some is.pair) (Some pair) = sym is.is_pair ∙ at in
    let one : is.pair ≡ pair = cc in
    ap (λ (p : List Bool). length p) (sym one) ∙ ap (λ (p : List Bool). length p) found.fills ∙ length-map found.partial filled_bit ∙ reads.0
    ∙ ap (λ (inputs : List ℕ). 2 * length inputs) stands.inputs

pub pairs_whole : AimedPairsAreWhole
pairs_whole task pairs aims targets are = All-from_get_or (λ (pair : List Bool). length pair ≡ bit_count task.chip) pairs [] (λ k lt.
    let one = are.one_each in
    pair_whole task pairs k (get_or aims k 0) (get_or pairs k []) targets
    (are.each k (get_or aims k 0) (slice_get-get_or aims k 0 (omega (arith, one, lt)))) (slice_get-get_or pairs k [] lt))
