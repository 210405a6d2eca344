-- The chains of a linked chip cover its scan instances.
use Rattle.std.proofs.Common.{◌≡◌, ℕ, ◌+◌, ◌<◌, ◌≤◌, true, false, Bool, List, [], ◌∷◌, ◌++◌, length}
use Rattle.std.proofs.Common.{refl, sym, ap, ◌∙◌, subst, arith, map, reverse, get_or}
use Rattle.std.specs.Prelude.{eqb, ◌||◌, Option, Some, None, slice_get, option_to_list, option_map}
use Rattle.std.specs.Prelude.{if◌then◌else◌}
use Rattle.std.specs.List.{flat_map}
use Rattle.std.proofs.lemmas.Bool.{eqb-true}
use Rattle.std.proofs.lemmas.List.{map-append, reverse-append}
use Rattle.std.proofs.lemmas.Option.{slice_get-map, slice_get_within, slice_get-get_or}
use Rattle.ca_linked.specs.declared.parts.PortBit.{PortBit}
use Rattle.ca_linked.specs.Linked.{LinkedChip, has}
use Rattle.ca_linked.specs.Instances.{scans_of}
use Rattle.ca_scan.specs.Chain.{count_of, IsChainFrom, AreChains, IsOnChain, IsScanAt}
use Rattle.ca_scan.specs.ChainFault.{AreAllChains}
use Rattle.ca_scan.proofs.ChainLemmas.{one_found}
use Rattle.ca_scan.proofs.CountLemmas.{item_of, count-append, count_here, counted, one_place}
use Rattle.ca_scan.proofs.FollowLemmas.{found_in}
use Rattle.ca_scan.proofs.JointLemmas.{scan_at}
use Rattle.ca_chip_stil.specs.ChipStil.{place_of, chain_of, stil_chip}
use Rattle.ca_stil_pairs.specs.Chip.{order_of, IsCovered}
use Rattle.ca_stil_pairs.proofs.OrderLemmas.{reversed}
use Rattle.ca_chip_pairs.proofs.PlaceLemmas.{scan_on_pin, place_within, at_place, scan_once}
use Rattle.ca_chip_pairs.proofs.RunLemmas.{reached, same_place, sum_one}

-- a list of single entries
abbrev single : ℕ → List ℕ
single v = v ∷ []

singles : (list : List ℕ) → flat_map single list ≡ list
singles [] = refl
singles (v ∷ list) = ap (λ rest. v ∷ rest) (singles list)

count_single : (u v : ℕ) → 1 ≤ count_of u (single v) → v ≡ u
unfolding count_of
count_single u v some = by (eqb u v) refl some
  where
    by : (test : Bool) → eqb u v ≡ test → 1 ≤ (if test then 1 else 0) + 0 → v ≡ u
    by true is some = sym (eqb-true u v is)
    by false is some = absurd (omega (arith, some))

one_single : (u v : ℕ) → count_of u (single v) ≤ 1
unfolding count_of
one_single u v = by (eqb u v)
  where
    by : (test : Bool) → (if test then 1 else 0) + 0 ≤ 1
    by true = omega arith
    by false = omega arith

-- what is counted is somewhere
record IsIn (list : List ℕ) (u : ℕ) : Type 0 where
  pub place : ℕ
  pub at : slice_get list place ≡ Some u

is_in : (list : List ℕ) (u : ℕ) → 1 ≤ count_of u list → IsIn list u
is_in list u some =
    let found = found_in single u list (subst (λ given. 1 ≤ count_of u given) (sym (singles list)) some) in
    record { place = found.place; at = found.at ∙ ap Some (count_single u found.item found.here) }

is_counted : (list : List ℕ) (k u : ℕ) → slice_get list k ≡ Some u → 1 ≤ count_of u list
is_counted list k u at = subst (λ given. 1 ≤ count_of u given) (singles list) (counted single u list k u at (count_here u u refl))

-- what is counted once is at one place, and the other way round
once_at : (list : List ℕ) (u i j : ℕ) → count_of u list ≤ 1 → slice_get list i ≡ Some u → slice_get list j ≡ Some u → i ≡ j
once_at list u i j one at_i at_j =
    one_place single u list i j u u (subst (λ given. count_of u given ≤ 1) (sym (singles list)) one) at_i at_j
    (count_here u u refl) (count_here u u refl)

count_once : (list : List ℕ) (u : ℕ) → ((j k : ℕ) → slice_get list j ≡ Some u → slice_get list k ≡ Some u → j ≡ k)
    → count_of u list ≤ 1
count_once list u once =
    subst (λ given. count_of u given ≤ 1) (singles list)
    (sum_one single u list (λ k v at. one_single u v)
    (λ j k v w at_j at_k here there. once j k (at_j ∙ ap Some (count_single u v here)) (at_k ∙ ap Some (count_single u w there))))

count_reverse : (u : ℕ) (list : List ℕ) → count_of u (reverse list) ≡ count_of u list
unfolding count_of
count_reverse u [] = refl
count_reverse u (v ∷ list) =
    let later = count_reverse u list in
    let both = count-append u (reverse list) (v ∷ []) in
    let turned = ap (count_of u) (reverse-append (v ∷ []) list) in
    omega (arith, later, both, turned)

-- the instances of a chain from its last one on, if there is one
abbrev back : Option (List ℕ) → List ℕ
back None = []
back (Some chain) = reverse chain

all_back : (found : List (Option (List ℕ))) → flat_map reverse (flat_map option_to_list found) ≡ flat_map back found
all_back [] = refl
all_back (None ∷ found) = all_back found
all_back (Some chain ∷ found) = ap (λ rest. reverse chain ++ rest) (all_back found)

order_is : (chip : LinkedChip) (chains : List (List ℕ)) → order_of (map (chain_of chip) chains) ≡ map (place_of chip) (flat_map reverse chains)
order_is chip [] = refl
order_is chip (chain ∷ chains) =
    (λ j. reversed (place_of chip) chain j ++ order_is chip chains j)
    ∙ sym (map-append (place_of chip) (reverse chain) (flat_map reverse chains))

-- where an instance of the chains is
record IsOn (chip : LinkedChip) (found : List (Option (List ℕ))) (u : ℕ) : Type 0 where
  pub port : ℕ
  pub chain : List ℕ
  pub at : slice_get found port ≡ Some (Some chain)
  pub place : ℕ
  pub there : slice_get chain place ≡ Some u

is_on : (chip : LinkedChip) (found : List (Option (List ℕ))) (u : ℕ) → 1 ≤ count_of u (flat_map back found) → IsOn chip found u
unfolding count_of
is_on chip found u some = from (found_in back u found some).place (found_in back u found some).item
    (found_in back u found some).at (found_in back u found some).here
  where
    from : (p : ℕ) (item : Option (List ℕ)) → slice_get found p ≡ Some item → 1 ≤ count_of u (back item) → IsOn chip found u
    from p None at here = absurd (omega (arith, here))
    from p (Some chain) at here =
        let turned = count_reverse u chain in
        let there = is_in chain u (omega (arith, here, turned)) in
        record { port = p; chain = chain; at = at; place = there.place; there = there.at }

-- each instance is counted once at most
one_count : (chip : LinkedChip) (chains : List (List ℕ)) (are : AreChains chip chains) (u : ℕ) → count_of u (flat_map back are.at_port) ≤ 1
unfolding count_of
one_count chip chains are u = sum_one back u are.at_port each once
  where
    each : (p : ℕ) (item : Option (List ℕ)) → slice_get are.at_port p ≡ Some item → count_of u (back item) ≤ 1
    each p None at = omega arith
    each p (Some chain) at =
        let turned = count_reverse u chain in
        let whole = are.each p (Some chain) at in
        let one = count_once chain u (λ j k at_j at_k. (same_place chip p p chain chain j k u whole whole at_j at_k).place) in
        omega (arith, turned, one)

    once : (p q : ℕ) (one two : Option (List ℕ)) → slice_get are.at_port p ≡ Some one → slice_get are.at_port q ≡ Some two
        → 1 ≤ count_of u (back one) → 1 ≤ count_of u (back two) → p ≡ q
    once p q None two at_p at_q here there = absurd (omega (arith, here))
    once p q (Some one) None at_p at_q here there = absurd (omega (arith, there))
    once p q (Some one) (Some two) at_p at_q here there =
        let first = count_reverse u one in
        let second = count_reverse u two in
        let j = is_in one u (omega (arith, here, first)) in
        let k = is_in two u (omega (arith, there, second)) in
        (same_place chip p q one two j.place k.place u (are.each p (Some one) at_p) (are.each q (Some two) at_q) j.at k.at).port

-- an instance of the chains is a scan instance
scan_of : (chip : LinkedChip) (chains : List (List ℕ)) (are : AreChains chip chains) (u : ℕ) → 1 ≤ count_of u (flat_map back are.at_port)
    → IsScanAt chip u
scan_of chip chains are u some =
    let on = is_on chip are.at_port u some in
    let whole : IsChainFrom chip on.port on.chain = are.each on.port (Some on.chain) on.at in
    let way = reached chip on.port whole.net on.chain [] on.place u whole.runs whole.at on.there in
    scan_on_pin chip u way.net way.taken

has_counted : (u : ℕ) (chain : List ℕ) → has chain u ≡ true → 1 ≤ count_of u chain
unfolding count_of
has_counted u [] there = absurd cc
has_counted u (v ∷ chain) there = by (eqb u v) there (λ more. has_counted u chain more)
  where
    by : (test : Bool) → (test || has chain u) ≡ true → (has chain u ≡ true → 1 ≤ count_of u chain)
        → 1 ≤ (if test then 1 else 0) + count_of u chain
    by true one later = omega arith
    by false one later = let more = later one in omega (arith, more)

-- each scan instance is on the chains
on_chains : (chip : LinkedChip) (chains : List (List ℕ)) (are : AreChains chip chains) (u : ℕ) → IsOnChain chip u
    → 1 ≤ count_of u (flat_map back are.at_port)
unfolding count_of
on_chains chip chains are u on =
    let at = item_of chip.ports on.port (λ (port : PortBit). (port.is_input ≡ true) × (port.net ≡ on.whole.net)) on.whole.at in
    let size = slice_get_within chip.ports on.port at.item at.at in
    let below : on.port < length are.at_port = subst (λ n. on.port < n) (sym are.room) size in
    let there = slice_get-get_or are.at_port on.port None below in
    let same = one_found chip on.port _ (Some on.chain) (are.each on.port _ there) on.whole in
    let turned = count_reverse u on.chain in
    let some = has_counted u on.chain on.there in
    counted back u are.at_port on.port (Some on.chain) (there ∙ ap Some same) (omega (arith, turned, some))

-- what a list of places has
record IsPlaced (chip : LinkedChip) (list : List ℕ) (i place : ℕ) : Type 0 where
  pub u : ℕ
  pub at : slice_get list i ≡ Some u
  pub is : place_of chip u ≡ place

placed : (chip : LinkedChip) (list : List ℕ) (i place : ℕ) → slice_get (map (place_of chip) list) i ≡ Some place → IsPlaced chip list i place
placed chip list i place at = by (slice_get list i) refl (sym (slice_get-map (place_of chip) list i) ∙ at)
  where
    by : (o : Option ℕ) → slice_get list i ≡ o → option_map (place_of chip) o ≡ Some place → IsPlaced chip list i place
    by None is mapped = absurd (let clash : None ≡ Some place = mapped in cc)
    by (Some u) is mapped = record { u = u; at = is; is = cc }

pub covered : (chip : LinkedChip) (chains : List (List ℕ)) → AreAllChains chip chains → IsCovered (stil_chip chip chains)
covered chip chains all = record { within = within; once = once; each = each }
  where
    list : List ℕ
    list = flat_map reverse chains

    is : order_of (map (chain_of chip) chains) ≡ map (place_of chip) list
    is = order_is chip chains

    list_is : list ≡ flat_map back all.are.at_port
    list_is = ap (flat_map reverse) all.are.all ∙ all_back all.are.at_port

    scan : (i u : ℕ) → slice_get list i ≡ Some u → IsScanAt chip u
    scan i u at = scan_of chip chains all.are u (subst (λ given. 1 ≤ count_of u given) list_is (is_counted list i u at))

    of : (i place : ℕ) → slice_get (order_of (map (chain_of chip) chains)) i ≡ Some place → IsPlaced chip list i place
    of i place at = placed chip list i place (sym (ap (λ given. slice_get given i) is) ∙ at)

    within : (i place : ℕ) → slice_get (order_of (map (chain_of chip) chains)) i ≡ Some place → place < length (scans_of chip)
    within i place at =
        let found = of i place at in
        subst (λ n. n < length (scans_of chip)) found.is (place_within chip found.u (scan i found.u found.at))

    once : (i j place : ℕ) → slice_get (order_of (map (chain_of chip) chains)) i ≡ Some place
        → slice_get (order_of (map (chain_of chip) chains)) j ≡ Some place → i ≡ j
    once i j place at_i at_j =
        let one = of i place at_i in
        let two = of j place at_j in
        let first = at_place chip one.u (scan i one.u one.at) in
        let second = at_place chip two.u (scan j two.u two.at) in
        let places : place_of chip one.u ≡ place_of chip two.u = one.is ∙ sym two.is in
        let both : Some one.u ≡ Some two.u = sym first ∙ ap (slice_get (scans_of chip)) places ∙ second in
        let same : one.u ≡ two.u = cc in
        once_at list two.u i j
        (subst (λ given. count_of two.u given ≤ 1) (sym list_is) (one_count chip chains all.are two.u))
        (one.at ∙ ap Some same) two.at

    each : (place : ℕ) → place < length (scans_of chip)
        → (i : ℕ) × (slice_get (order_of (map (chain_of chip) chains)) i ≡ Some place)
    each place below =
        let u : ℕ = get_or (scans_of chip) place 0 in
        let there : slice_get (scans_of chip) place ≡ Some u = slice_get-get_or (scans_of chip) place 0 below in
        let is_scan = scan_at chip place u there in
        let on = on_chains chip chains all.are u (all.on_chains u is_scan) in
        let found = is_in list u (subst (λ given. 1 ≤ count_of u given) (sym list_is) on) in
        let at = scan_once chip (place_of chip u) place u (at_place chip u is_scan) there in (
          found.place,
          ap (λ given. slice_get given found.place) is ∙ slice_get-map (place_of chip) list found.place
              ∙ ap (option_map (place_of chip)) found.at ∙ ap Some at,
        )
