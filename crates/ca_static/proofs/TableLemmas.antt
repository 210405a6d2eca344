-- The entries of a table, one after another.
use Rattle.std.proofs.Common.{ℕ, ◌+◌, ◌^◌, ◌≡◌, ◌<◌, refl, ap, sym, ◌∙◌, subst, List, [], ◌∷◌, ◌++◌, length, map, get_or, arith, inl, inr}
use Rattle.std.proofs.Common.{length-append}
use Rattle.std.proofs.lemmas.Bool.{cases_lt}
use Rattle.std.proofs.lemmas.List.{map-append, get_or_append_left, get_or_push}
use Rattle.arrayvec.specs.ArrayVec.{ArrayVec}
use Rattle.ca_net.specs.declared.wave.Wave.{Wave}
use Rattle.ca_cell.specs.declared.raw.RawCell.{RawCell}
use Rattle.ca_cell.specs.Raw.{is_input, is_output, role_count}
use Rattle.ca_cell.specs.Row.{vector_of}
use Rattle.ca_flat.specs.Waves.{unknown_wave}
use Rattle.ca_flips.specs.Static.{EndsByLast, IsStatic}
use Rattle.ca_static.specs.LastTable.{entry_at, last_at, IsLastTable}

-- the first `end` entries have the last values with which the cell ends
pub record IsFilledTo (raw : RawCell) (end : ℕ) (table : List (List Wave)) : Type 0 where
  pub count : length table ≡ end
  pub rows : (number : ℕ) → number < end → length (entry_at table number) ≡ role_count is_output raw.pins
  pub each : (number output : ℕ) → number < end → output < role_count is_output raw.pins
      → EndsByLast raw (vector_of (role_count is_input raw.pins) number) output (last_at table number output)

pub filled_none : (raw : RawCell) → IsFilledTo raw 0 []
filled_none raw = record { count = refl; rows = λ number less. absurd (omega arith); each = λ number output less. absurd (omega arith) }

pub filled_more : (raw : RawCell) (end : ℕ) (old new : List (List Wave)) (outputs : List Wave) → IsFilledTo raw end old
    → length outputs ≡ role_count is_output raw.pins
    → ((output : ℕ) → output < role_count is_output raw.pins
    → EndsByLast raw (vector_of (role_count is_input raw.pins) end) output (get_or outputs output unknown_wave).last)
    → new ≡ old ++ outputs ∷ [] → IsFilledTo raw (end + 1) new
filled_more raw end old new outputs so_far count ends is = record {
  count = ap length is ∙ length-append old (outputs ∷ []) ∙ (let so = so_far.count in omega arith);
  rows = λ number less. elim (cases_lt number end) [
    | inl low ↦ ap length (before number low) ∙ so_far.rows number low
    | inr high ↦ ap length (here number (omega arith)) ∙ count
  ];
  each = λ number output less within. elim (cases_lt number end) [
    | inl low ↦ subst (λ entry. EndsByLast raw (vector_of (role_count is_input raw.pins) number) output (get_or entry output unknown_wave).last)
        (sym (before number low)) (so_far.each number output low within)
    | inr high ↦
        let same : end ≡ number = omega arith in
        subst (λ entry. EndsByLast raw (vector_of (role_count is_input raw.pins) number) output (get_or entry output unknown_wave).last)
        (sym (here number (sym same)))
        (subst (λ n. EndsByLast raw (vector_of (role_count is_input raw.pins) n) output (get_or outputs output unknown_wave).last) same (ends output within))
  ];
}
  where
    before : (number : ℕ) → number < end → entry_at new number ≡ entry_at old number
    before number low = ap (λ t. entry_at t number) is ∙ get_or_append_left old (outputs ∷ []) [] number (let so = so_far.count in omega arith)

    here : (number : ℕ) → number ≡ end → entry_at new number ≡ outputs
    here number same =
        let last : number ≡ length old = let so = so_far.count in omega arith in
        ap (λ t. entry_at t number) is ∙ ap (entry_at (old ++ outputs ∷ [])) last ∙ get_or_push old outputs [] (length old) refl

-- all are filled
pub filled_all : (raw : RawCell) (end : ℕ) (table : List (List Wave)) → IsStatic raw → end ≡ 2 ^ role_count is_input raw.pins
    → IsFilledTo raw end table → IsLastTable raw table
filled_all raw end table static end_is filled = record {
  is_static = static;
  count = filled.count ∙ end_is;
  rows = λ number less. filled.rows number (omega (arith, end_is));
  each = λ number output less within. filled.each number output (omega (arith, end_is)) within;
}

-- one more entry
pub entries_pushed : (old new : List (ArrayVec Wave)) (entry : ArrayVec Wave) → new ≡ old ++ entry ∷ []
    → map (λ entry. entry.items) new ≡ map (λ entry. entry.items) old ++ entry.items ∷ []
entries_pushed old new entry is = ap (map (λ (entry : ArrayVec Wave). entry.items)) is ∙ map-append (λ (entry : ArrayVec Wave). entry.items) old (entry ∷ [])
