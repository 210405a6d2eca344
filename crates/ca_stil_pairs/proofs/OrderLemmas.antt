-- The order of a text, and that of the places.
use Rattle.std.proofs.Common.{◌≡◌, ℕ, ◌+◌, ◌<◌, ◌≤◌, List, [], ◌∷◌, ◌++◌, length, map, reverse, drop, get_or}
use Rattle.std.proofs.Common.{ap, sym, ◌∙◌, arith, append-nil, refl, length-append, subst, ◌-◌}
use Rattle.std.specs.Prelude.{Some, slice_get}
use Rattle.std.specs.List.{All, AllByRecursion}
use Rattle.std.proofs.lemmas.List.{map-append, reverse-append, length-map, length-reverse}
use Rattle.std.proofs.lemmas.List.{get_or-map, get_or-drop, get_or-take, ext_get_or, get_or_append_left}
use Rattle.std.proofs.lemmas.List.{get_or-append-add, get_or-reverse}
use Rattle.std.proofs.lemmas.Option.{slice_get-get_or, slice_get_within, slice_get_read, get_or_from_slice_get}
use Rattle.std.proofs.lemmas.Grind.{get_or_default_zero}
use Rattle.ca_stil.specs.declared.chip.StilChain.{StilChain}
use Rattle.ca_stil.specs.declared.chip.StilChip.{StilChip}
use Rattle.ca_stil.specs.Chip.{part, IsWithin, IsStilChip}
use Rattle.ca_stil_form.specs.Frame.{longest}
use Rattle.ca_stil_form.specs.Value.{in_chain, values_of}
use Rattle.ca_stil_form.proofs.PairTexts.{chain_seen}
use Rattle.ca_stil_read.specs.Plan.{flat}
use Rattle.ca_stil_pairs.specs.Chip.{order_of, IsCovered}
use Rattle.ca_stil_pairs.specs.code.Places.{AreSites, sited}
use Rattle.ca_stil_pairs.proofs.ListLemmas.{long_part, all_of}

pub reversed : {One Two : Type 0} (f : One → Two) (list : List One) → reverse (map f list) ≡ map f (reverse list)
reversed f [] = refl
reversed f (one ∷ list) =
    reverse-append (f one ∷ []) (map f list)
    ∙ ap (λ (given : List _). given ++ f one ∷ []) (reversed f list)
    ∙ sym (map-append f (reverse list) (one ∷ []))
    ∙ ap (map f) (sym (reverse-append (one ∷ []) list))

-- the values of the chains, one after another
pub flat_in_chains : {Value : Type 0} (other : Value) (values : List Value) (chains : List StilChain)
    → flat (map (in_chain other values) chains) ≡ map (λ place. get_or values place other) (order_of chains)
flat_in_chains other values [] = refl
flat_in_chains other values (chain ∷ chains) =
    let here = reversed (λ (place : ℕ). get_or values place other) chain.places in
    let later = flat_in_chains other values chains in
    (λ j. here j ++ later j)
    ∙ sym (map-append (λ (place : ℕ). get_or values place other) (reverse chain.places) (order_of chains))

pub flat_values : {Value : Type 0} (values : List Value) → flat (values_of values) ≡ values
flat_values [] = refl
flat_values (value ∷ values) = append-nil (value ∷ values)

-- what was put by place is in the text's order again
pub gathered : {Value : Type 0} (other : Value) (from : ℕ) (order : List ℕ) (scans : ℕ) (sites : List ℕ) (values : List Value)
    → AreSites order scans sites → ((i place : ℕ) → slice_get order i ≡ Some place → place < scans)
    → from + length order ≤ length values
    → map (λ place. get_or (sited other from sites values) place other) order ≡ part from (length order) values
gathered {Value} other from order scans sites values are within long =
    ext_get_or other (map read order) (part from (length order) values)
    (length-map order read ∙ sym (long_part from (length order) values long)) each
  where
    read : ℕ → Value
    read place = get_or (sited other from sites values) place other

    each : (i : ℕ) → i < length (map read order) → get_or (map read order) i other ≡ get_or (part from (length order) values) i other
    each i below =
        let counted = length-map order read in
        let inside : i < length order = omega (arith, below, counted) in
        let place : ℕ = get_or order i 0 in
        let found : slice_get order i ≡ Some place = slice_get-get_or order i 0 inside in
        let room : place < length sites = omega (arith, within i place found, are.room) in
        get_or-map read order i 0 other inside
        ∙ get_or-map (λ (site : ℕ). get_or values (from + site) other) sites place 0 other room
        ∙ ap (λ (site : ℕ). get_or values (from + site) other) (are.at i place inside found)
        ∙ sym (get_or-drop from values i other)
        ∙ sym (get_or-take (length order) (drop from values) i other inside)

-- each site is within the order
pub sites_within : (chip : StilChip) (sites : List ℕ) → IsCovered chip → AreSites (order_of chip.chains) chip.scan_count sites
    → All (λ site. site < length (order_of chip.chains)) sites
sites_within chip sites covered are k other below =
    let room = are.room in
    let found = covered.each k (omega (arith, below, room)) in
    let inside : found.0 < length (order_of chip.chains) = slice_get_within (order_of chip.chains) found.0 k found.1 in
    let is : get_or sites k 0 ≡ found.0 = are.at found.0 k inside found.1 in
    let same : get_or sites k other ≡ get_or sites k 0 = get_or_default_zero sites k other below in
    omega (arith, same, is, inside)

-- no chain is longer than all together
pub longest_within : (chains : List StilChain) → longest (map chain_seen chains) ≤ length (order_of chains)
unfolding longest
longest_within [] = omega arith
longest_within (chain ∷ chains) =
    let later = longest_within chains in
    omega (arith, later, length-append (reverse chain.places) (order_of chains), length-reverse chain.places)

pub sites_in : (chip : StilChip) (order sites read : List ℕ) → IsCovered chip → order ≡ order_of chip.chains
    → AreSites order chip.scan_count sites → read ≡ sites → All (λ site. site < length order) read
sites_in chip order sites read covered order_is are read_is =
    subst (λ (given : List ℕ). All (λ site. site < length order) given) (sym read_is)
    (subst (λ (given : List ℕ). All (λ site. site < length given) sites) (sym order_is)
    (sites_within chip sites covered (subst (λ (given : List ℕ). AreSites given chip.scan_count sites) order_is are)))

-- what is found in a list is found in a longer one
found_after : (before list : List ℕ) (i place : ℕ) → slice_get list i ≡ Some place → slice_get (before ++ list) (length before + i) ≡ Some place
found_after before list i place is =
    slice_get_read (before ++ list) (length before + length list) (length before + i) place (sym (length-append before list))
    (let inside = slice_get_within list i place is in omega (arith, inside))
    (sym (get_or-append-add before list i place ∙ get_or_from_slice_get list i place place is))

-- the chains are of the chip's scan instances
pub chains_within : (chip : StilChip) → IsCovered chip → IsStilChip chip
chains_within chip covered = all_of (IsWithin chip.scan_count) chip.chains (by chip.chains (λ i place is. covered.within i place is))
  where
    chain_within : (places rest : List ℕ) → ((i place : ℕ) → slice_get (reverse places ++ rest) i ≡ Some place → place < chip.scan_count)
        → All (λ place. place < chip.scan_count) places
    chain_within places rest within k other below =
        let turned : length (reverse places) ≡ length places = length-reverse places in
        let at : ℕ = length places - 1 - k in
        let inside : at < length (reverse places) = omega (arith, turned, below) in
        let there : at < length (reverse places ++ rest) = omega (arith, inside, length-append (reverse places) rest) in
        let here : get_or (reverse places ++ rest) at other ≡ get_or (reverse places) at other =
        get_or_append_left (reverse places) rest other at inside in
        let same : get_or (reverse places) at other ≡ get_or places (length places - 1 - at) other =
        get_or-reverse places at other (omega (arith, below)) in
        let back : length places - 1 - at ≡ k = omega (arith, below) in
        let found = within at (get_or (reverse places ++ rest) at other) (slice_get-get_or (reverse places ++ rest) at other there) in
        subst (λ (place : ℕ). place < chip.scan_count) (here ∙ same ∙ ap (λ (n : ℕ). get_or places n other) back) found

    by : (chains : List StilChain) → ((i place : ℕ) → slice_get (order_of chains) i ≡ Some place → place < chip.scan_count)
        → AllByRecursion (IsWithin chip.scan_count) chains
    by [] within = tt
    by (chain ∷ chains) within = (
      chain_within chain.places (order_of chains) within,
      by chains (λ i place is. within (length (reverse chain.places) + i) place
          (found_after (reverse chain.places) (order_of chains) i place is)),
    )
