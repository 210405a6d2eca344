-- The names of port bits, one after another.
use Rattle.std.proofs.Common.{◌≡◌, ℕ, ◌+◌, ◌≤◌, Bool, List, [], ◌∷◌, ◌++◌, map, length, refl, sym, ap, ◌∙◌}
use Rattle.std.specs.Prelude.{Option, Some, None, IsSomeAnd, slice_get, take}
use Rattle.std.specs.List.{flat_map}
use Rattle.std.proofs.lemmas.List.{take_all, append-nil, map-append}
use Rattle.std.proofs.lemmas.Grind.{flat_map-append}
use Rattle.ca_linked.specs.declared.parts.PortBit.{PortBit}
use Rattle.ca_linked.specs.Linked.{LinkedChip}
use Rattle.ca_linked.proofs.EndLemmas.{take_more}
use Rattle.ca_chip_stil.specs.Sites.{if_data_port}
use Rattle.ca_chip_stil.specs.ChipStil.{names_of}

-- one entry more of a list that is made entry by entry
pub made_more : {X Y : Type 0} (make : X → Y) (xs : List X) (k : ℕ) (made new : List Y) (y : Y)
    → IsSomeAnd (slice_get xs k) (λ x. y ≡ make x) → made ≡ map make (take k xs) → new ≡ made ++ y ∷ []
    → new ≡ map make (take (k + 1) xs)
made_more {X} {Y} make xs k made new y there before pushed = by (slice_get xs k) refl there
  where
    by : (o : Option X) → slice_get xs k ≡ o → IsSomeAnd o (λ x. y ≡ make x) → new ≡ map make (take (k + 1) xs)
    by None at is = absurd is
    by (Some x) at is =
        pushed ∙ (λ j. before j ++ is j ∷ [])
        ∙ sym (ap (map make) (take_more xs k x at) ∙ map-append make (take k xs) (x ∷ []))

-- the list is whole
pub made_all : {X Y : Type 0} (make : X → Y) (xs : List X) (k : ℕ) (made : List Y) → length xs ≤ k
    → made ≡ map make (take k xs) → made ≡ map make xs
made_all make xs k made past before = before ∙ ap (map make) (take_all k xs past)

-- the names of one port bit more
pub names_more : (chip : LinkedChip) (input : Bool) (p : ℕ) (before after : List (List ℕ))
    → before ≡ names_of (flat_map (if_data_port chip input) (take p chip.ports))
    → IsSomeAnd (slice_get chip.ports p) (λ port. after ≡ before ++ names_of (if_data_port chip input port))
    → after ≡ names_of (flat_map (if_data_port chip input) (take (p + 1) chip.ports))
names_more chip input p before after so_far grown = by (slice_get chip.ports p) refl grown
  where
    by : (there : Option PortBit) → slice_get chip.ports p ≡ there
        → IsSomeAnd there (λ port. after ≡ before ++ names_of (if_data_port chip input port))
        → after ≡ names_of (flat_map (if_data_port chip input) (take (p + 1) chip.ports))
    by None at is = absurd is
    by (Some port) at is =
        is ∙ ap (λ names. names ++ names_of (if_data_port chip input port)) so_far
        ∙ sym (ap (λ front. names_of (flat_map (if_data_port chip input) front)) (take_more chip.ports p port at)
        ∙ ap names_of (flat_map-append (if_data_port chip input) (take p chip.ports) (port ∷ []))
        ∙ map-append (λ (bit : PortBit). bit.name) (flat_map (if_data_port chip input) (take p chip.ports))
        (flat_map (if_data_port chip input) (port ∷ []))
        ∙ ap (λ last. names_of (flat_map (if_data_port chip input) (take p chip.ports)) ++ names_of last)
        (append-nil (if_data_port chip input port)))
