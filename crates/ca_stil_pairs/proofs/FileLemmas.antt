-- A text of the form whose signals, groups and chains are those of a chip is a file of the chip.
use Rattle.std.proofs.Common.{◌≡◌, ℕ, zero, suc, ◌+◌, ◌<◌, ◌^◌, List, [], ◌∷◌, ◌++◌, length, map, ap, get_or}
use Rattle.std.proofs.Common.{sym, ◌∙◌, arith, refl, length-append}
use Rattle.std.specs.Prelude.{Some, Ok, slice_get}
use Rattle.std.proofs.Math.Decide.{dec_lt}
use Rattle.std.proofs.lemmas.List.{length-map, get_or_append_left, get_or-append-add}
use Rattle.ca_stil.specs.declared.chip.StilChip.{StilChip}
use Rattle.ca_stil.specs.Chip.{longest, IsPairOf, AreValuesOf}
use Rattle.ca_stil_form.specs.Reading.{whole}
use Rattle.ca_stil_form.specs.Tokens.{tokens_of}
use Rattle.ca_stil_form.specs.Value.{all_values}
use Rattle.ca_stil_form.specs.Whole.{Stil, stil_form}
use Rattle.ca_stil_form.proofs.ReadingLemmas.{read_written}
use Rattle.ca_stil_form.proofs.StilLemmas.{stil_exact}
use Rattle.ca_stil_read.specs.declared.pair.TextPair.{TextPair}
use Rattle.ca_stil_read.specs.Kept.{pair_seen}
use Rattle.ca_stil_read.specs.Plan.{Flat, flat_pair}
use Rattle.ca_stil_pairs.specs.Chip.{chip_part, part_of, order_of, IsCovered}
use Rattle.ca_stil_pairs.specs.Laws.{HasFile}
use Rattle.ca_stil_pairs.specs.code.Places.{AreSites, chip_bits, chip_levels}
use Rattle.ca_stil_pairs.proofs.ListLemmas.{all_of}
use Rattle.ca_stil_pairs.proofs.OrderLemmas.{chains_within}
use Rattle.ca_stil_pairs.proofs.WholeLemmas.{chip_pairs_allowed, pairs_in, pairs_for, pairs_are, all_bits, all_levels, value_is}

-- for each of the first `count` numbers its place in an order
record HasPlaces (order : List ℕ) (count : ℕ) : Type 0 where
  places : List ℕ
  room : length places ≡ count
  at : (number : ℕ) → number < count → slice_get order (get_or places number 0) ≡ Some number

places_up_to : (order : List ℕ) (count : ℕ)
    → ((number : ℕ) → number < count → (i : ℕ) × (slice_get order i ≡ Some number)) → HasPlaces order count
places_up_to order zero each = record { places = []; room = refl; at = λ number below. absurd (omega (arith, below)) }
places_up_to order (suc count) each =
    let before = places_up_to order count (λ number below. each number (omega (arith, below))) in
    let last = each count (omega arith) in
    let long = before.room in
    let added = length-append before.places (last.0 ∷ []) in
    record {
      places = before.places ++ last.0 ∷ [];
      room = omega (arith, long, added);
      at = λ number below. elim (dec_lt number count) [
        | yes inside ↦
            let same : get_or (before.places ++ last.0 ∷ []) number 0 ≡ get_or before.places number 0 =
            get_or_append_left before.places (last.0 ∷ []) 0 number (omega (arith, inside, long)) in
            ap (slice_get order) same ∙ before.at number inside
        | no past ↦
            let is : number ≡ length before.places + 0 = omega (arith, below, past, long) in
            let end : number ≡ count = omega (arith, below, past) in
            ap (λ (n : ℕ). slice_get order (get_or (before.places ++ last.0 ∷ []) n 0)) is
            ∙ ap (slice_get order) (get_or-append-add before.places (last.0 ∷ []) 0 0)
            ∙ last.1 ∙ ap (λ (n : ℕ). Some n) (sym end)
      ];
    }

-- so the scan instances of a chip have sites
record HasSites (chip : StilChip) : Type 0 where
  sites : List ℕ
  are : AreSites (order_of chip.chains) chip.scan_count sites

sites_of : (chip : StilChip) → IsCovered chip → HasSites chip
sites_of chip covered =
    let has = places_up_to (order_of chip.chains) chip.scan_count covered.each in
    record {
      sites = has.places;
      are = record {
        room = has.room;
        at = λ i place below found.
            covered.once (get_or has.places place 0) i place (has.at place (covered.within i place found)) found;
      };
    }

-- the pairs of a text, one after another, as a text has them
abbrev text_pair : Flat → TextPair
text_pair values = record { bits = values.0; levels = values.1 }

pairs_back : (values : List Flat) → values ≡ map pair_seen (map text_pair values)
pairs_back [] = refl
pairs_back ((bits, levels) ∷ values) = let later = pairs_back values in λ j. (bits, levels) ∷ later j

-- the file of a text of the chip
pub file_of_text : (chip : StilChip) (bytes : List ℕ) (value : Stil) → IsCovered chip → longest chip.chains < 2 ^ 64
    → whole stil_form (tokens_of bytes) ≡ Ok value → chip_part value ≡ part_of chip → HasFile chip bytes
file_of_text chip bytes value covered small reads part =
    let has = sites_of chip covered in
    let sites : List ℕ = has.sites in
    let pairs : List TextPair = map text_pair (map flat_pair (pairs_in value)) in
    let seen : map flat_pair (pairs_in value) ≡ map pair_seen pairs = pairs_back (map flat_pair (pairs_in value)) in
    let allowed = chip_pairs_allowed chip value small (read_written stil_form stil_exact (tokens_of bytes) value reads).allowed part in
    let for = pairs_for chip 0 (pairs_in value) pairs allowed seen in
    let all : pairs_in value ≡ all_values chip (map (chip_bits chip sites) pairs) (map (chip_levels chip sites) pairs) =
    pairs_are chip sites 0 (pairs_in value) pairs covered has.are allowed seen in
    record {
      file = record { pairs = map (chip_bits chip sites) pairs; expected = map (chip_levels chip sites) pairs };
      is = record {
        are = record {
          chains = chains_within chip covered;
          bits = all_of (IsPairOf chip) (map (chip_bits chip sites) pairs) (all_bits chip sites pairs has.are for);
          values = all_of (AreValuesOf chip) (map (chip_levels chip sites) pairs) (all_levels chip sites pairs has.are for);
          counted = length-map pairs (chip_bits chip sites) ∙ sym (length-map pairs (chip_levels chip sites));
        };
        reads = reads ∙ ap (λ (value : Stil). Ok value) (value_is chip value _ _ part all);
      };
    }
