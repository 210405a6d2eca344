-- The readers of the first nets, and of a net of the core.
use Rattle.std.proofs.Common.{◌≡◌, ℕ, zero, suc, ◌+◌, ◌<◌, List, [], ◌∷◌, ◌++◌, true, false, length}
use Rattle.std.proofs.Common.{length-append, refl, sym, ◌∙◌, ap, subst, arith, get_or}
use Rattle.std.specs.Prelude.{slice_get, IsSomeAnd, Option, Some, None, take, if◌then◌else◌}
use Rattle.std.specs.List.{Contains}
use Rattle.std.proofs.lemmas.List.{get_or_append_left, get_or_push, get_or_default}
use Rattle.std.proofs.lemmas.Option.{slice_get_within}
use native.Mathlib.Decide.{ℕ_discrete}
use Rattle.ca_linked.specs.declared.parts.Part.{Part}
use Rattle.ca_linked.specs.Linked.{LinkedChip, net_count, gate_inputs, is_scan_path, IsWired}
use Rattle.ca_linked.specs.Reading.{AreReadersOf}
use Rattle.ca_linked.specs.Reading as wired
use Rattle.ca_view.specs.Core.{core_net, core_of}
use Rattle.ca_view.proofs.CoreLemmas.{IsOutside, core_less, core_same, length-core_kinds, net_of_number}
use Rattle.ca_view.proofs.CorePartLemmas.{part_at, read_is_data}
use Rattle.ca_view.specs.Linked.{Reads, AreReaders}
use Rattle.ca_view.specs.Readers.{row_at, AreFirstRows, AreRows}
use Rattle.ca_view.proofs.CoreIsChip.{data_outside}
use Rattle.ca_view.proofs.CoreFacts.{core_count, inputs_are, input_net_is}
use Rattle.ca_view.proofs.PartFacts.{some_at}

step : (chip : LinkedChip) (net : ℕ) → core_net chip (net + 1) ≡ core_net chip net + (if is_scan_path chip net then 0 else 1)
unfolding core_net
step chip net = ap (core_net chip) (let e : net + 1 ≡ suc net = omega arith in e)

pub no_rows : (chip : LinkedChip) → AreFirstRows chip 0 []
unfolding core_net
no_rows chip = record { room = refl; each = λ net lt. absurd (omega arith) }

-- a net on the scan path has no row
pub row_skipped : (chip : LinkedChip) (net : ℕ) (rows : List (List ℕ)) → AreFirstRows chip net rows → is_scan_path chip net ≡ true → AreFirstRows chip (net + 1) rows
row_skipped chip net rows first path = record {
  room = first.room ∙ (let s = step chip net ∙ ap (λ b. core_net chip net + (if b then 0 else 1)) path in let e : core_net chip net ≡ core_net chip (net + 1) = omega arith in e);
  each = λ m lt outside. elim (ℕ_discrete m net) [
    | yes same ↦ absurd (let clash : true ≡ false = sym path ∙ ap (is_scan_path chip) (sym same) ∙ outside in cc)
    | no other ↦ first.each m (omega arith) outside
  ];
}

-- any other has the next
pub row_added : (chip : LinkedChip) (net : ℕ) (rows new : List (List ℕ)) (row : List ℕ) → AreFirstRows chip net rows → is_scan_path chip net ≡ false
    → AreReadersOf chip net row → new ≡ rows ++ row ∷ [] → AreFirstRows chip (net + 1) new
row_added chip net rows new row first off read is = record {
  room = ap length is ∙ length-append rows (row ∷ [])
      ∙ (let room = first.room in let s = step chip net ∙ ap (λ b. core_net chip net + (if b then 0 else 1)) off in
      let e : length rows + 1 ≡ core_net chip (net + 1) = omega arith in e);
  each = λ m lt outside. elim (ℕ_discrete m net) [
    | yes same ↦
        subst (AreReadersOf chip m) (sym (ap (λ (list : List (List ℕ)). row_at list (core_net chip m)) is ∙ get_or_push rows row [] (core_net chip m) (first.room ∙ ap (core_net chip) (sym same))))
        (subst (λ n. AreReadersOf chip n row) (sym same) read)
    | no other ↦
        let less = core_less chip m net outside (omega arith) in
        subst (AreReadersOf chip m) (sym (ap (λ (list : List (List ℕ)). row_at list (core_net chip m)) is ∙ get_or_append_left rows (row ∷ []) [] (core_net chip m) (let room = first.room in omega arith)))
        (first.each m (omega arith) outside)
  ];
}

-- one more of a list that is copied
pub copied_more : (xs new : List ℕ) (k x : ℕ) → k < length xs → x ≡ get_or xs k 0 → new ≡ take k xs ++ x ∷ [] → new ≡ take (k + 1) xs
copied_more xs new k x lt at is =
    is ∙ ap (λ n. take k xs ++ n ∷ []) at ∙ sym (taken xs k lt)
  where
    taken : (ys : List ℕ) (j : ℕ) → j < length ys → take (j + 1) ys ≡ take j ys ++ get_or ys j 0 ∷ []
    taken [] j less = absurd (omega arith)
    taken (y ∷ ys) zero less = refl
    taken (y ∷ ys) (suc j) less =
        ap (λ n. take n (y ∷ ys)) (let e : suc j + 1 ≡ suc (j + 1) = omega arith in e) ∙ ap (λ (zs : List ℕ). y ∷ zs) (taken ys j (omega arith))

module _ (chip : LinkedChip) (is : IsWired chip) where
  -- a pin of the core's instance is on the net exactly where the instance reads the net of the chip
  pub read_in_chip : (net u : ℕ) → IsOutside chip net → Reads (core_of chip) u (core_net chip net) → wired.Reads chip u net
  read_in_chip net u outside reads =
      let found = part_at chip u reads.known in
      let lt : reads.pin < length (gate_inputs found.part.body) = let e = inputs_are chip is u found.part found.at in let w = reads.within in omega arith in
      let same : get_or (gate_inputs found.part.body) reads.pin 0 ≡ net =
      core_same chip _ _ (data_outside chip is u found.part _ found.at (read_is_data found.part.body reads.pin lt)) outside
      (sym (input_net_is chip is u found.part reads.pin found.at lt) ∙ reads.on) in
      some_at (λ part. Contains (gate_inputs part.body) net) chip.parts u found.part found.at
      (reads.pin, lt, get_or_default (gate_inputs found.part.body) reads.pin net 0 lt ∙ same)

  pub read_in_core : (net u : ℕ) → wired.Reads chip u net → Reads (core_of chip) u (core_net chip net)
  read_in_core net u reads = by (slice_get chip.parts u) refl reads
    where
      by : (o : Option Part) → slice_get chip.parts u ≡ o → IsSomeAnd o (λ part. Contains (gate_inputs part.body) net) → Reads (core_of chip) u (core_net chip net)
      by None at has = elim has [ ]
      by (Some part) at has = record {
        known = (let lt = slice_get_within chip.parts u part at in let e = core_count chip in omega arith);
        pin = has.0;
        within = (let e = inputs_are chip is u part at in let lt = has.1 in omega arith);
        on = input_net_is chip is u part has.0 at has.1
            ∙ ap (core_net chip) (get_or_default (gate_inputs part.body) has.0 0 net has.1 ∙ has.2);
      }

  -- the row of each net of the core has its readers
  pub rows_read : (rows : List (List ℕ)) → AreRows chip rows → (net : ℕ) → net < length (core_of chip).nets → AreReaders (core_of chip) net (row_at rows net)
  rows_read rows are net lt =
      let found = net_of_number chip (net_count chip) net (let l = length-core_kinds chip (net_count chip) in omega arith) in
      let read = are.each found.net found.within found.outside in
      subst (λ n. AreReaders (core_of chip) n (row_at rows n)) found.numbered (record {
        each = λ u reads. (read u).1 (read_in_chip found.net u found.outside reads);
        only = λ u has. read_in_core found.net u ((read u).0 has);
      })

-- the core has a row for each net
pub row_count : (chip : LinkedChip) (rows : List (List ℕ)) → AreRows chip rows → length rows ≡ length (core_of chip).nets
row_count chip rows are = are.room ∙ sym (length-core_kinds chip (net_count chip))
