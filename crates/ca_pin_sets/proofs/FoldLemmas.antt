-- The groups, the owners, the nets and the places after one item more.
use Rattle.std.proofs.Common.{◌≡◌, ℕ, suc, ◌+◌, ◌<◌, List, Bool, true, false, [], ◌∷◌, ◌++◌, length}
use Rattle.std.proofs.Common.{◌≤◌, refl, sym, ◌∙◌, ap, subst, arith, cond, take, get_or}
use Rattle.std.specs.Prelude.{Option, Some, slice_get}
use Rattle.std.proofs.lemmas.Bool.{cond-true, cond-false, eq-eqb, ne_eqb}
use Rattle.std.proofs.lemmas.List.{take_more, length-take-le, append-nil}
use Rattle.std.proofs.lemmas.Option.{get_or_from_slice_get, slice_get-get_or}
use Rattle.ca_cell.specs.declared.raw.RawPin.{RawPin}
use Rattle.ca_cell.specs.declared.raw.RawDevice.{RawDevice}
use Rattle.ca_pin_sets.specs.Groups.{joined, groups_after}
use Rattle.ca_pin_sets.specs.Homes.{claimed_by, owners_after}
use Rattle.ca_pin_sets.specs.Resolved.{is_kept, kept_nets, places_from}

pub groups_more : (pins : ℕ) (groups : List ℕ) (devices : List RawDevice) (device : RawDevice)
    → groups_after pins groups (devices ++ device ∷ []) ≡ joined pins device (groups_after pins groups devices)
groups_more pins groups [] device = refl
groups_more pins groups (first ∷ devices) device = groups_more pins (joined pins first groups) devices device

pub owners_more : (pins : List RawPin) (groups : List ℕ) (owners : List (Option ℕ)) (devices : List RawDevice) (device : RawDevice)
    → owners_after pins groups owners (devices ++ device ∷ []) ≡ claimed_by pins groups device (owners_after pins groups owners devices)
owners_more pins groups owners [] device = refl
owners_more pins groups owners (first ∷ devices) device = owners_more pins groups (claimed_by pins groups first owners) devices device

-- one net more is kept or not
pub nets_more : (place : ℕ) (homes : List ℕ) (nets : List (List ℕ)) (home : ℕ) (net : List ℕ) → length homes ≡ length nets
    → kept_nets place (homes ++ home ∷ []) (nets ++ net ∷ [])
    ≡ kept_nets place homes nets ++ cond (is_kept (place + length homes) home) (net ∷ []) []
nets_more place [] [] home net same =
    let here : place ≡ place + 0 = omega arith in
    ap (λ (at : ℕ). cond (is_kept at home) (net ∷ []) []) here
nets_more place [] (first ∷ nets) home net same = absurd (omega (arith, same))
nets_more place (one ∷ homes) [] home net same = absurd (omega (arith, same))
nets_more place (one ∷ homes) (first ∷ nets) home net same =
    by (is_kept place one) (nets_more (place + 1) homes nets home net (omega (arith, same)))
  where
    next : place + 1 + length homes ≡ place + suc (length homes)
    next = omega arith

    by : (kept : Bool) → kept_nets (place + 1) (homes ++ home ∷ []) (nets ++ net ∷ [])
        ≡ kept_nets (place + 1) homes nets ++ cond (is_kept (place + 1 + length homes) home) (net ∷ []) []
        → cond kept (first ∷ kept_nets (place + 1) (homes ++ home ∷ []) (nets ++ net ∷ [])) (kept_nets (place + 1) (homes ++ home ∷ []) (nets ++ net ∷ []))
        ≡ cond kept (first ∷ kept_nets (place + 1) homes nets) (kept_nets (place + 1) homes nets)
        ++ cond (is_kept (place + suc (length homes)) home) (net ∷ []) []
    by true rest =
        ap (λ (more : List (List ℕ)). first ∷ more) (rest ∙ ap (λ (at : ℕ). kept_nets (place + 1) homes nets ++ cond (is_kept at home) (net ∷ []) []) next)
    by false rest = rest ∙ ap (λ (at : ℕ). kept_nets (place + 1) homes nets ++ cond (is_kept at home) (net ∷ []) []) next

-- how many of these nets, whose first is at a place, are kept
abbrev pub kept_count : ℕ → List ℕ → ℕ
kept_count place [] = 0
kept_count place (home ∷ homes) = cond (is_kept place home) 1 0 + kept_count (place + 1) homes

pub places_more : (place before : ℕ) (homes : List ℕ) (home : ℕ)
    → places_from place before (homes ++ home ∷ [])
    ≡ places_from place before homes ++ cond (is_kept (place + length homes) home) (before + kept_count place homes) home ∷ []
places_more place before [] home =
    let here : place ≡ place + 0 = omega arith in
    let none : before ≡ before + 0 = omega arith in
    by (is_kept place home) ∙ (λ j. cond (is_kept (here j) home) (none j) home ∷ [])
  where
    by : (kept : Bool) → cond kept (before ∷ []) (home ∷ []) ≡ cond kept before home ∷ []
    by true = refl
    by false = refl
places_more place before (one ∷ homes) home =
    by (is_kept place one) (places_more (place + 1) (before + 1) homes home) (places_more (place + 1) before homes home)
  where
    next : place + 1 + length homes ≡ place + suc (length homes)
    next = omega arith

    last : ℕ → ℕ → List ℕ
    last at count = cond (is_kept at home) count home ∷ []

    by : (kept : Bool)
        → places_from (place + 1) (before + 1) (homes ++ home ∷ []) ≡ places_from (place + 1) (before + 1) homes ++ last (place + 1 + length homes) (before + 1 + kept_count (place + 1) homes)
        → places_from (place + 1) before (homes ++ home ∷ []) ≡ places_from (place + 1) before homes ++ last (place + 1 + length homes) (before + kept_count (place + 1) homes)
        → cond kept (before ∷ places_from (place + 1) (before + 1) (homes ++ home ∷ [])) (one ∷ places_from (place + 1) before (homes ++ home ∷ []))
        ≡ cond kept (before ∷ places_from (place + 1) (before + 1) homes) (one ∷ places_from (place + 1) before homes)
        ++ last (place + suc (length homes)) (before + (cond kept 1 0 + kept_count (place + 1) homes))
    by true more same =
        let count : before + 1 + kept_count (place + 1) homes ≡ before + (1 + kept_count (place + 1) homes) = omega arith in
        ap (λ (rest : List ℕ). before ∷ rest) (more ∙ (λ j. places_from (place + 1) (before + 1) homes ++ last (next j) (count j)))
    by false more same =
        let count : before + kept_count (place + 1) homes ≡ before + (0 + kept_count (place + 1) homes) = omega arith in
        ap (λ (rest : List ℕ). one ∷ rest) (same ∙ (λ j. places_from (place + 1) before homes ++ last (next j) (count j)))

pub count_more : (place : ℕ) (homes : List ℕ) (home : ℕ)
    → kept_count place (homes ++ home ∷ []) ≡ kept_count place homes + cond (is_kept (place + length homes) home) 1 0
count_more place [] home =
    let here : place ≡ place + 0 = omega arith in
    zeros (cond {A = ℕ} (is_kept place home) 1 0) ∙ ap (λ (at : ℕ). 0 + cond {A = ℕ} (is_kept at home) 1 0) here
  where
    zeros : (n : ℕ) → n + 0 ≡ 0 + n
    zeros n = omega arith
count_more place (one ∷ homes) home =
    ap (λ (count : ℕ). cond (is_kept place one) 1 0 + count) (count_more (place + 1) homes home ∙ ap (λ (at : ℕ). kept_count (place + 1) homes + cond (is_kept at home) 1 0) next)
    ∙ regroup (cond (is_kept place one) 1 0) (kept_count (place + 1) homes) (cond (is_kept (place + suc (length homes)) home) 1 0)
  where
    next : place + 1 + length homes ≡ place + suc (length homes)
    next = omega arith

    regroup : (a b c : ℕ) → a + (b + c) ≡ a + b + c
    regroup a b c = omega arith

-- one net more in a loop over all
front : (homes : List ℕ) (place home : ℕ) → place < length homes → home ≡ get_or homes place home → take (place + 1) homes ≡ take place homes ++ home ∷ []
front homes place home within is = take_more homes place home within ∙ ap (λ (h : ℕ). take place homes ++ h ∷ []) (sym is)

reached : (homes : List ℕ) (place : ℕ) → place < length homes → 0 + length (take place homes) ≡ place
reached homes place within = let count : length (take place homes) ≡ place = length-take-le place homes (omega (arith, within)) in omega (arith, count)

nets_step : (homes : List ℕ) (nets : List (List ℕ)) (place home : ℕ) (net : List ℕ) → length homes ≡ length nets → place < length homes
    → home ≡ get_or homes place home → slice_get nets place ≡ Some net
    → kept_nets 0 (take (place + 1) homes) (take (place + 1) nets)
    ≡ kept_nets 0 (take place homes) (take place nets) ++ cond (is_kept place home) (net ∷ []) []
nets_step homes nets place home net same within is there =
    fronts
    ∙ nets_more 0 (take place homes) (take place nets) home net lengths
    ∙ ap (λ (at : ℕ). kept_nets 0 (take place homes) (take place nets) ++ cond (is_kept at home) (net ∷ []) []) (reached homes place within)
  where
    nets_within : place < length nets
    nets_within = omega (arith, same, within)

    front_nets : take (place + 1) nets ≡ take place nets ++ net ∷ []
    front_nets =
        take_more nets place net nets_within ∙ ap (λ (n : List ℕ). take place nets ++ n ∷ []) (get_or_from_slice_get nets place net net there)

    fronts : kept_nets 0 (take (place + 1) homes) (take (place + 1) nets) ≡ kept_nets 0 (take place homes ++ home ∷ []) (take place nets ++ net ∷ [])
    fronts = λ j. kept_nets 0 (front homes place home within is j) (front_nets j)

    lengths : length (take place homes) ≡ length (take place nets)
    lengths =
        length-take-le place homes (omega (arith, within)) ∙ sym (length-take-le place nets (omega (arith, nets_within)))

pub nets_kept : (homes : List ℕ) (nets names : List (List ℕ)) (place home : ℕ) (net : List ℕ) → length homes ≡ length nets → place < length homes
    → home ≡ get_or homes place home → slice_get nets place ≡ Some net → home ≡ place → names ≡ kept_nets 0 (take place homes) (take place nets)
    → names ++ net ∷ [] ≡ kept_nets 0 (take (place + 1) homes) (take (place + 1) nets)
nets_kept homes nets names place home net same within is there own so_far =
    ap (λ (ns : List (List ℕ)). ns ++ net ∷ []) so_far
    ∙ ap (λ (more : List (List ℕ)). kept_nets 0 (take place homes) (take place nets) ++ more) (sym (cond-true (is_kept place home) (net ∷ []) [] (eq-eqb home place own)))
    ∙ sym (nets_step homes nets place home net same within is there)

pub nets_left : (homes : List ℕ) (nets names : List (List ℕ)) (place home : ℕ) → length homes ≡ length nets → place < length homes
    → home ≡ get_or homes place home → (home ≡ place → ⊥) → names ≡ kept_nets 0 (take place homes) (take place nets)
    → names ≡ kept_nets 0 (take (place + 1) homes) (take (place + 1) nets)
nets_left homes nets names place home same within is other so_far =
    so_far ∙ sym (append-nil (kept_nets 0 (take place homes) (take place nets)))
    ∙ ap (λ (more : List (List ℕ)). kept_nets 0 (take place homes) (take place nets) ++ more)
    (sym (cond-false (is_kept place home) (get_or nets place [] ∷ []) [] (ne_eqb home place other)))
    ∙ sym (nets_step homes nets place home (get_or nets place []) same within is (slice_get-get_or nets place [] (omega (arith, same, within))))

-- the places so far and how many are kept
abbrev pub ArePlaced : List ℕ → ℕ → List ℕ → ℕ → Type 0
ArePlaced homes place places before =
    (places ≡ places_from 0 0 (take place homes)) × (before ≡ kept_count 0 (take place homes)) × (before ≤ place)

places_step : (homes : List ℕ) (place home : ℕ) → place < length homes → home ≡ get_or homes place home
    → places_from 0 0 (take (place + 1) homes)
    ≡ places_from 0 0 (take place homes) ++ cond (is_kept place home) (kept_count 0 (take place homes)) home ∷ []
places_step homes place home within is =
    ap (places_from 0 0) (front homes place home within is)
    ∙ places_more 0 0 (take place homes) home
    ∙ (λ j. places_from 0 0 (take place homes) ++ cond (is_kept (reached homes place within j) home) (none (kept_count 0 (take place homes)) j) home ∷ [])
  where
    none : (n : ℕ) → 0 + n ≡ n
    none n = omega arith

count_step : (homes : List ℕ) (place home : ℕ) → place < length homes → home ≡ get_or homes place home
    → kept_count 0 (take (place + 1) homes) ≡ kept_count 0 (take place homes) + cond (is_kept place home) 1 0
count_step homes place home within is =
    ap (kept_count 0) (front homes place home within is)
    ∙ count_more 0 (take place homes) home
    ∙ ap (λ (at : ℕ). kept_count 0 (take place homes) + cond (is_kept at home) 1 0) (reached homes place within)

pub placed_kept : (homes places : List ℕ) (place home before : ℕ) → place < length homes → home ≡ get_or homes place home → home ≡ place
    → ArePlaced homes place places before → ArePlaced homes (place + 1) (places ++ before ∷ []) (before + 1)
placed_kept homes places place home before within is own (so_far, count, few) = (
  pushed ∙ sym (places_step homes place home within is),
  (let more = count_step homes place home within is in let one = cond-true {A = ℕ} (is_kept place home) 1 0 kept in omega (arith, more, one, count)),
  omega (arith, few),
)
  where
    kept : is_kept place home ≡ true
    kept = eq-eqb home place own

    at : before ≡ cond (is_kept place home) (kept_count 0 (take place homes)) home
    at = count ∙ sym (cond-true (is_kept place home) (kept_count 0 (take place homes)) home kept)

    pushed : places ++ before ∷ [] ≡ places_from 0 0 (take place homes) ++ cond (is_kept place home) (kept_count 0 (take place homes)) home ∷ []
    pushed = λ j. so_far j ++ at j ∷ []

pub placed_left : (homes places : List ℕ) (place home before : ℕ) → place < length homes → home ≡ get_or homes place home → (home ≡ place → ⊥)
    → ArePlaced homes place places before → ArePlaced homes (place + 1) (places ++ home ∷ []) before
placed_left homes places place home before within is other (so_far, count, few) = (
  pushed ∙ sym (places_step homes place home within is),
  (let more = count_step homes place home within is in let none = cond-false {A = ℕ} (is_kept place home) 1 0 left in omega (arith, more, none, count)),
  omega (arith, few),
)
  where
    left : is_kept place home ≡ false
    left = ne_eqb home place other

    at : home ≡ cond (is_kept place home) (kept_count 0 (take place homes)) home
    at = sym (cond-false (is_kept place home) (kept_count 0 (take place homes)) home left)

    pushed : places ++ home ∷ [] ≡ places_from 0 0 (take place homes) ++ cond (is_kept place home) (kept_count 0 (take place homes)) home ∷ []
    pushed = λ j. so_far j ++ at j ∷ []

-- the groups and the owners after one device more of a loop
pub groups_step : (pins : ℕ) (groups : List ℕ) (devices : List RawDevice) (i : ℕ) (device : RawDevice) → i < length devices → device ≡ get_or devices i device
    → joined pins device (groups_after pins groups (take i devices)) ≡ groups_after pins groups (take (i + 1) devices)
groups_step pins groups devices i device within is =
    sym (groups_more pins groups (take i devices) device)
    ∙ ap (λ (next : RawDevice). groups_after pins groups (take i devices ++ next ∷ [])) is
    ∙ ap (groups_after pins groups) (sym (take_more devices i device within))

pub owners_step : (pins : List RawPin) (groups : List ℕ) (owners : List (Option ℕ)) (devices : List RawDevice) (i : ℕ) (device : RawDevice)
    → i < length devices → device ≡ get_or devices i device
    → claimed_by pins groups device (owners_after pins groups owners (take i devices)) ≡ owners_after pins groups owners (take (i + 1) devices)
owners_step pins groups owners devices i device within is =
    sym (owners_more pins groups owners (take i devices) device)
    ∙ ap (λ (next : RawDevice). owners_after pins groups owners (take i devices ++ next ∷ [])) is
    ∙ ap (owners_after pins groups owners) (sym (take_more devices i device within))

-- the same as a loop has its values
reads : (homes : List ℕ) (place : ℕ) → place < length homes → get_or homes place 0 ≡ get_or homes place (get_or homes place 0)
reads homes place within =
    sym (get_or_from_slice_get homes place (get_or homes place 0) (get_or homes place 0) (slice_get-get_or homes place 0 within))

pub nets_with : (homes : List ℕ) (nets : List (List ℕ)) (place : ℕ) (net text : List ℕ) (names new : List (List ℕ)) → length homes ≡ length nets
    → place < length homes → get_or homes place 0 ≡ place → slice_get nets place ≡ Some net → names ≡ kept_nets 0 (take place homes) (take place nets)
    → text ≡ net → new ≡ names ++ text ∷ [] → new ≡ kept_nets 0 (take (place + 1) homes) (take (place + 1) nets)
nets_with homes nets place net text names new same within own there so_far copied pushed =
    pushed ∙ ap (λ (n : List ℕ). names ++ n ∷ []) copied
    ∙ nets_kept homes nets names place (get_or homes place 0) net same within (reads homes place within) there own so_far

pub nets_without : (homes : List ℕ) (nets names : List (List ℕ)) (place : ℕ) → length homes ≡ length nets → place < length homes
    → (get_or homes place 0 ≡ place → ⊥) → names ≡ kept_nets 0 (take place homes) (take place nets)
    → names ≡ kept_nets 0 (take (place + 1) homes) (take (place + 1) nets)
nets_without homes nets names place same within other so_far =
    nets_left homes nets names place (get_or homes place 0) same within (reads homes place within) other so_far

pub placed_with : (homes places new : List ℕ) (place before : ℕ) → place < length homes → get_or homes place 0 ≡ place
    → ArePlaced homes place places before → new ≡ places ++ before ∷ [] → ArePlaced homes (place + 1) new (before + 1)
placed_with homes places new place before within own so_far pushed =
    subst (λ (all : List ℕ). ArePlaced homes (place + 1) all (before + 1)) (sym pushed)
    (placed_kept homes places place (get_or homes place 0) before within (reads homes place within) own so_far)

pub placed_without : (homes places new : List ℕ) (place before : ℕ) → place < length homes → (get_or homes place 0 ≡ place → ⊥)
    → ArePlaced homes place places before → new ≡ places ++ get_or homes place 0 ∷ [] → ArePlaced homes (place + 1) new before
placed_without homes places new place before within other so_far pushed =
    subst (λ (all : List ℕ). ArePlaced homes (place + 1) all before) (sym pushed)
    (placed_left homes places place (get_or homes place 0) before within (reads homes place within) other so_far)
