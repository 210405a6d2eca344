-- Bits of masks.
use Rattle.std.proofs.Common.{◌≡◌, ℕ, ◌+◌, ◌*◌, ◌%◌, ◌^◌, ◌<◌, List, length, refl, sym, ◌∙◌, subst, arith, inl, inr, get_or, slice_set, bit_or, w64}
use Rattle.std.proofs.lemmas.Bool.{cases_eq}
use Rattle.std.proofs.lemmas.List.{get_or-set_same, get_or-set_other, length-set}
use Rattle.std.proofs.lemmas.Nat.Bits.{bit_at-lt, bit_at_or, bit_at_set_same, bit_at_set_other}
use Rattle.ca_net.specs.declared.trit.Trit.{Trit}
use Rattle.ca_cell.specs.Row.{vector_of}
use Rattle.ca_flat.specs.Chip.{Chip, inputs_at}
use Rattle.ca_flat.specs.TwoFrame.{IsVectorOver}
use Rattle.ca_every_vector.specs.Possible.{Has, HasAllOver, HasAllSeen}
use Rattle.ca_view.specs.Linked.{IsPlaced}
use Rattle.ca_every_vector.specs.code.Masks.{mask_at, AreMore, IsAdded, HasAllBelow, HaveAllSeen}

pub or_left : (a b i : ℕ) → Has a i → Has (bit_or a b) i
or_left a b i h = bit_at_or a b i ∙ (let l = bit_at-lt b i in omega arith)

or_right : (a b i : ℕ) → Has b i → Has (bit_or a b) i
or_right a b i h = bit_at_or a b i ∙ (let l = bit_at-lt a i in omega arith)

module _ (masks : List ℕ) (u rows mask : ℕ) (within : u < length masks) (is : mask ≡ get_or masks u 0) where
  pub here : IsAdded u rows (slice_set masks u (bit_or mask rows))
  here number h = subst (λ m. Has m number) (sym (get_or-set_same masks u (bit_or mask rows) 0 within)) (or_right mask rows number h)

  kept_at : (w number : ℕ) → Has (get_or masks w 0) number → Has (get_or (slice_set masks u (bit_or mask rows)) w 0) number
  kept_at w number h = elim (cases_eq w u) [
    | inl e ↦ subst (λ n. Has (get_or (slice_set masks u (bit_or mask rows)) n 0) number) (sym e)
        (subst (λ m. Has m number) (sym (get_or-set_same masks u (bit_or mask rows) 0 within))
        (or_left mask rows number (subst (λ m. Has m number) (sym is) (subst (λ n. Has (get_or masks n 0) number) e h))))
    | inr other ↦ subst (λ m. Has m number) (sym (get_or-set_other masks u w (bit_or mask rows) 0 other)) h
  ]

  pub added_more : AreMore masks (slice_set masks u (bit_or mask rows))
  added_more = record { room = length-set masks u (bit_or mask rows); each = kept_at }

pub more_none : (masks : List ℕ) → AreMore masks masks
more_none masks = record { room = refl; each = λ u number h. h }

pub more_then : (a b c : List ℕ) → AreMore a b → AreMore b c → AreMore a c
more_then a b c one two = record { room = two.room ∙ one.room; each = λ u number h. two.each u number (one.each u number h) }

-- one vector more in the rows
module _ (chip : Chip) (u : ℕ) (values : List Trit) (end rows : ℕ) (low : end < 64) (before : HasAllBelow chip u values end rows) where
  set_rows : ℕ
  set_rows = bit_or rows (1 * 2 ^ end % 2 ^ 64)

  pub row_set : HasAllBelow chip u values (end + 1) (bit_or rows (1 * 2 ^ end % 2 ^ 64))
  row_set number less over = elim (cases_eq number end) [
    | inl e ↦ subst (Has (bit_or rows (1 * 2 ^ end % 2 ^ 64))) (sym e) (bit_at_set_same w64 rows end low)
    | inr other ↦ bit_at_set_other w64 rows end low number other ∙ before number (omega (arith, other)) over
  ]

  pub row_left : (IsVectorOver chip u values (vector_of (inputs_at chip u) end) → ⊥) → HasAllBelow chip u values (end + 1) rows
  row_left off number less over = elim (cases_eq number end) [
    | inl e ↦ absurd (off (subst (λ n. IsVectorOver chip u values (vector_of (inputs_at chip u) n)) e over))
    | inr other ↦ before number (omega (arith, other)) over
  ]

-- what is over values, or matters, in a mask, is in one with more
pub over_more : (chip : Chip) (u : ℕ) (values : List Trit) (old new : List ℕ) → AreMore old new → HasAllOver chip u values (mask_at old u) → HasAllOver chip u values (mask_at new u)
over_more chip u values old new more has number less over = more.each u number (has number less over)

pub seen_more : (chip : Chip) (u : ℕ) (values : List Trit) (old new : List ℕ) → AreMore old new → HasAllSeen chip u values (mask_at old u) → HasAllSeen chip u values (mask_at new u)
seen_more chip u values old new more (inl unseen) = inl unseen
seen_more chip u values old new more (inr (inl clear)) = inr (inl (record { clear = clear.clear; has = over_more chip u values old new more clear.has }))
seen_more chip u values old new more (inr (inr all)) = inr (inr (λ number less. more.each u number (all number less)))

pub over_added : (chip : Chip) (u rows : ℕ) (values : List Trit) (masks : List ℕ) → IsAdded u rows masks → HasAllOver chip u values rows → HasAllOver chip u values (mask_at masks u)
over_added chip u rows values masks added has number less over = added number (has number less over)

pub seen_added : (chip : Chip) (u rows : ℕ) (values : List Trit) (masks : List ℕ) → IsAdded u rows masks → HasAllSeen chip u values rows → HasAllSeen chip u values (mask_at masks u)
seen_added chip u rows values masks added (inl unseen) = inl unseen
seen_added chip u rows values masks added (inr (inl clear)) = inr (inl (record { clear = clear.clear; has = over_added chip u rows values masks added clear.has }))
seen_added chip u rows values masks added (inr (inr all)) = inr (inr (λ number less. added number (all number less)))

-- what matters to one instance more
pub have_seen_more : (chip : Chip) (place_of : ℕ → ℕ) (values : List Trit) (end : ℕ) (old new : List ℕ) → AreMore old new → HaveAllSeen chip place_of values end old
    → (IsPlaced chip place_of end → HasAllSeen chip end values (mask_at new end)) → HaveAllSeen chip place_of values (end + 1) new
have_seen_more chip place_of values end old new more before here u less placed = elim (cases_eq u end) [
  | inl e ↦ subst (λ n. HasAllSeen chip n values (mask_at new n)) (sym e) (here (subst (IsPlaced chip place_of) e placed))
  | inr other ↦ seen_more chip u values old new more (before u (omega (arith, other)) placed)
]
