-- A text has one reading for a run.
use Rattle.std.proofs.Common.{ℕ, zero, suc, ◌≡◌, ◌∙◌, refl, sym, ap, subst, List, [], ◌∷◌, length, Option}
use Rattle.std.proofs.Common.{Some, None, Ok, Err}
use Rattle.std.specs.Prelude.{slice_get}
use Rattle.ca_net.specs.declared.trit.Trit.{Trit}
use Rattle.ca_net.specs.Circuit.{Circuit}
use Rattle.ca_flat.specs.declared.chip_defect.ChipDefect.{ChipDefect}
use Rattle.ca_flat.specs.Chip.{IsChipDefect}
use Rattle.ca_linked.specs.Linked.{LinkedChip}
use Rattle.ca_view.specs.Core.{core_of}
use Rattle.ca_order.specs.declared.event.Event.{Event}
use Rattle.ca_order.specs.declared.event.Place.{Place}
use Rattle.ca_order.specs.declared.event.Place.TheVariants.{Free, Fixed}
use Rattle.ca_order.specs.Order.{order_of}
use Rattle.ca_order.specs.Allowed.{ArePlaces}
use Rattle.ca_chip_replay.specs.ChipRun.{RunOf}
use Rattle.ca_request.specs.Asked.{IsLibraryDefect}
use Rattle.ca_simulate.specs.OneRun.{ReadsRun, IsFaultyLine}

-- a defect of a library instance is one of the chip
pub is_chip_defect : (chip : LinkedChip) (given : Option ChipDefect) → IsLibraryDefect chip given
    → IsChipDefect (core_of chip) given
is_chip_defect chip None is = tt
is_chip_defect chip (Some given) is = is.0

-- two lists of places that are free at the same places are the same
same_places : (one other : List Place) → length one ≡ length other
    → ((n : ℕ) → slice_get one n ≡ Some Free → slice_get other n ≡ Some Free)
    → ((n : ℕ) → slice_get other n ≡ Some Free → slice_get one n ≡ Some Free) → one ≡ other
same_places [] [] each there back = refl
same_places [] (place ∷ other) each there back = absurd cc
same_places (place ∷ one) [] each there back = absurd cc
same_places (Free ∷ one) (Free ∷ other) each there back =
    let counts : length one ≡ length other = cc in
    let rest : one ≡ other = same_places one other counts (λ (n : ℕ). there (suc n)) (λ (n : ℕ). back (suc n)) in
    ap (λ (places : List Place). Free ∷ places) rest
same_places (Fixed ∷ one) (Fixed ∷ other) each there back =
    let counts : length one ≡ length other = cc in
    let rest : one ≡ other = same_places one other counts (λ (n : ℕ). there (suc n)) (λ (n : ℕ). back (suc n)) in
    ap (λ (places : List Place). Fixed ∷ places) rest
same_places (Free ∷ one) (Fixed ∷ other) each there back = let same : Some Fixed ≡ Some Free = there zero refl in absurd cc
same_places (Fixed ∷ one) (Free ∷ other) each there back = let same : Some Fixed ≡ Some Free = back zero refl in absurd cc

-- the places for a text are one
pub places_are : (net : Circuit) (first last : List Trit) (one other : List Place) → ArePlaces net first last one
    → ArePlaces net first last other → one ≡ other
places_are net first last one other are also = same_places one other (are.each ∙ sym also.each)
    (λ n free. (also.free n).1 ((are.free n).0 free)) (λ n free. (are.free n).1 ((also.free n).0 free))

-- a text that reads as events has no faulty line
pub read_or_faulty : (run : RunOf) (text : List ℕ) (events : List Event) (line : ℕ) → ReadsRun run text (Ok events)
    → IsFaultyLine run line text → ⊥
read_or_faulty run text events line reads faulty =
    let same : reads.places ≡ faulty.places = places_are _ _ _ reads.places faulty.places reads.are_places faulty.are_places in
    let read : order_of faulty.places text ≡ Ok events = subst (λ (places : List Place). order_of places text ≡ Ok events) same reads.reads in
    let both = sym read ∙ faulty.reads in
    cc
