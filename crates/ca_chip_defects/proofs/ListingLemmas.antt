-- One instance more in the list of a chip's defects.
use Rattle.std.proofs.Common.{◌≡◌, ℕ, zero, suc, ◌+◌, ◌<◌, List, [], ◌∷◌, ◌++◌, length, refl, sym, ◌∙◌, ap}
use Rattle.std.proofs.Common.{subst, arith}
use Rattle.std.specs.Prelude.{map, take, slice_index_or}
use Rattle.std.proofs.lemmas.List.{append-nil, append_assoc, map-append}
use Rattle.std.proofs.lemmas.List.Concat.{flat_map-append}
use Rattle.ca_cell.specs.declared.defect.Defect.{Defect}
use Rattle.ca_flat.specs.declared.chip_defect.ChipDefect.{ChipDefect}
use Rattle.ca_flat.specs.Chip.{Chip}
use Rattle.ca_view.specs.Linked.{place_in}
use Rattle.ca_chip_defects.specs.ChipDefects.{placed_at, defects_at, chip_defects}
use Rattle.ca_chip_defects.specs.code.ChipDefects.{if_placed, placed_before}

before_next : (places : List ℕ) (u : ℕ)
    → placed_before places (u + 1) ≡ placed_before places u ++ if_placed (place_in places u) u
unfolding placed_before
before_next places u = ap (placed_before places) (let e : u + 1 ≡ suc u = omega arith in e)

-- before the first instance there are none
pub none_before : (chip : Chip) (places : List ℕ) → chip_defects chip (placed_before places 0) ≡ []
unfolding placed_before
none_before chip places = refl

-- the next instance adds its defects
pub instance_adds : (chip : Chip) (places : List ℕ) (u : ℕ) (list more : List ChipDefect)
    → list ≡ chip_defects chip (placed_before places u)
    → more ≡ list ++ chip_defects chip (if_placed (place_in places u) u)
    → more ≡ chip_defects chip (placed_before places (u + 1))
instance_adds chip places u list more list_is more_is =
    more_is ∙ ap (λ (l : List ChipDefect). l ++ chip_defects chip (if_placed (place_in places u) u)) list_is
    ∙ sym (flat_map-append (defects_at chip) (placed_before places u) (if_placed (place_in places u) u))
    ∙ ap (chip_defects chip) (sym (before_next places u))

-- one that has no place has none
pub unplaced_has_none : (chip : Chip) (place u : ℕ) (list : List ChipDefect) → place ≡ 0
    → list ≡ list ++ chip_defects chip (if_placed place u)
unplaced_has_none chip place u list none =
    subst (λ (p : ℕ). list ≡ list ++ chip_defects chip (if_placed p u)) (sym none) (sym (append-nil list))

-- one that has a place has those of its cell
pub placed_has : (chip : Chip) (place u : ℕ) → 0 < place
    → chip_defects chip (if_placed place u) ≡ defects_at chip u
placed_has chip zero u placed = absurd (omega arith)
placed_has chip (suc place) u placed = append-nil (defects_at chip u)

-- one entry more from the head of a list
take_next : (xs : List Defect) (k : ℕ) (d : Defect) → k < length xs
    → take (suc k) xs ≡ take k xs ++ slice_index_or xs k d ∷ []
take_next [] k d within = absurd (omega arith)
take_next (x ∷ xs) zero d within = refl
take_next (x ∷ xs) (suc k) d within = ap (λ (rest : List Defect). x ∷ rest) (take_next xs k d (omega arith))

-- one defect more of the instance
pub defect_adds : (u : ℕ) (old list new : List ChipDefect) (items : List Defect) (k : ℕ) (d : Defect)
    → k < length items → list ≡ old ++ map (placed_at u) (take k items)
    → new ≡ list ++ placed_at u (slice_index_or items k d) ∷ []
    → new ≡ old ++ map (placed_at u) (take (k + 1) items)
defect_adds u old list new items k d within list_is new_is =
    let entry = placed_at u (slice_index_or items k d) in
    let next : take (k + 1) items ≡ take k items ++ slice_index_or items k d ∷ [] =
    ap (λ (n : ℕ). take n items) (let e : k + 1 ≡ suc k = omega arith in e) ∙ take_next items k d within in
    new_is ∙ ap (λ (l : List ChipDefect). l ++ entry ∷ []) list_is
    ∙ append_assoc old (map (placed_at u) (take k items)) (entry ∷ [])
    ∙ ap (λ (l : List ChipDefect). old ++ l)
    (sym (map-append (placed_at u) (take k items) (slice_index_or items k d ∷ [])) ∙ ap (map (placed_at u)) (sym next))
