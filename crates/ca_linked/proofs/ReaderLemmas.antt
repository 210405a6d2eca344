-- The readers of nets, as more are added.
use Rattle.std.proofs.Common.{◌≡◌, ℕ, ◌+◌, ◌<◌, ◌⊎◌, List, [], ◌∷◌, ◌++◌, length, inl, inr, refl, sym, ◌∙◌}
use Rattle.std.proofs.Common.{ap, subst, arith}
use Rattle.std.specs.Prelude.{Some, slice_get, slice_set, replicate, ◌↔◌}
use Rattle.std.specs.List.{Contains}
use Rattle.std.proofs.lemmas.List.{get_or-set_same, get_or-set_other, length-set, get_or-replicate}
use Rattle.std.proofs.lemmas.List.{length-replicate}
use Rattle.std.proofs.lemmas.List.Elements.{Contains-append_left, Contains-push, Contains-push_cases}
use native.Mathlib.Decide.{ℕ_discrete}
use Rattle.ca_linked.specs.code.Walk.{row_of}
use Rattle.ca_linked.specs.Linked.{Body, Gate, Scan, Part, LinkedChip, net_count, gate_inputs}
use Rattle.ca_linked.specs.Reading.{Reads}
use Rattle.ca_linked.specs.code.Reading.{HaveReaders, ReadsAmong, ReadsSoFar, AreReaders}
use Rattle.ca_linked.proofs.OrderLemmas.{place_of, contained_at}
use Rattle.ca_linked.proofs.DriverLemmas.{of_some, to_some, some_within, some_inj}

-- the same were seen
pub seen_same : (chip : LinkedChip) (Seen Now : ℕ → ℕ → Type 0) (rows : List (List ℕ)) → HaveReaders chip Seen rows
    → ((net u : ℕ) → net < net_count chip → Seen net u ↔ Now net u) → HaveReaders chip Now rows
seen_same chip Seen Now rows have same = record {
  room = have.room;
  each = λ net u lt. (
    λ has. (same net u lt).0 ((have.each net u lt).0 has),
    λ now. (have.each net u lt).1 ((same net u lt).1 now),
  );
}

-- none was seen
pub readers_none : (chip : LinkedChip) → HaveReaders chip (ReadsAmong chip 0) (replicate (net_count chip) [])
readers_none chip = record {
  room = length-replicate (net_count chip) [];
  each = λ net u lt. (
    λ has. absurd (let less = has.1 in let none = ap (λ (row : List ℕ). length row) (get_or-replicate (net_count chip) net [] [] lt) in omega (arith, less, none)),
    λ reads. absurd (let less = reads.0 in omega (arith, less)),
  );
}

module _ (chip : LinkedChip) (u : ℕ) (inputs : List ℕ) (pin at : ℕ) (is_at : slice_get inputs pin ≡ Some at) (rows : List (List ℕ))
    (have : HaveReaders chip (ReadsSoFar chip u inputs pin) rows) where
  earlier : (net w : ℕ) → ReadsSoFar chip u inputs pin net w → ReadsSoFar chip u inputs (pin + 1) net w
  earlier net w seen = elim seen [
    | inl was ↦ inl was
    | inr here ↦ inr (here.0, record { pin = here.1.pin; before = (let lt = here.1.before in omega (arith, lt)); at = here.1.at })
  ]

  last : (net w : ℕ) → ReadsSoFar chip u inputs (pin + 1) net w → ReadsSoFar chip u inputs pin net w ⊎ ((w ≡ u) × (net ≡ at))
  last net w seen = elim seen [
    | inl was ↦ inl (inl was)
    | inr here ↦ elim (ℕ_discrete here.1.pin pin) [
      | yes same ↦ inr (here.0, some_inj net at (sym here.1.at ∙ ap (slice_get inputs) same ∙ is_at))
      | no other ↦ inl (inr (here.0, record { pin = here.1.pin; before = (let lt = here.1.before in omega (arith, lt, other)); at = here.1.at }))
    ]
  ]

  -- the next pin is on the net
  pub pin_added : at < net_count chip → HaveReaders chip (ReadsSoFar chip u inputs (pin + 1)) (slice_set rows at (row_of rows at ++ u ∷ []))
  pin_added within = record {
    room = length-set rows at (row_of rows at ++ u ∷ []) ∙ have.room;
    each = λ net w lt. elim (ℕ_discrete net at) [
      | yes same ↦
          let row : row_of (slice_set rows at (row_of rows at ++ u ∷ [])) net ≡ row_of rows at ++ u ∷ [] =
          ap (row_of (slice_set rows at (row_of rows at ++ u ∷ []))) same
          ∙ get_or-set_same rows at (row_of rows at ++ u ∷ []) [] (let e = have.room in omega (arith, e, within)) in (
            λ has. elim (Contains-push_cases (row_of rows at) u w (subst (λ r. Contains r w) row has)) [
              | inl was ↦ earlier net w ((have.each net w lt).0 (subst (λ n. Contains (row_of rows n) w) (sym same) was))
              | inr is ↦ inr (sym is, record { pin = pin; before = omega arith; at = is_at ∙ ap Some (sym same) })
            ],
            λ seen. subst (λ r. Contains r w) (sym row) (elim (last net w seen) [
              | inl was ↦ Contains-append_left (row_of rows at) (u ∷ []) w (subst (λ n. Contains (row_of rows n) w) same ((have.each net w lt).1 was))
              | inr here ↦ subst (Contains (row_of rows at ++ u ∷ [])) (sym here.0) (Contains-push (row_of rows at) u)
            ]),
          )
      | no other ↦
          let row : row_of (slice_set rows at (row_of rows at ++ u ∷ [])) net ≡ row_of rows net = get_or-set_other rows at net (row_of rows at ++ u ∷ []) [] other in (
            λ has. earlier net w ((have.each net w lt).0 (subst (λ r. Contains r w) row has)),
            λ seen. subst (λ r. Contains r w) (sym row) (elim (last net w seen) [
              | inl was ↦ (have.each net w lt).1 was
              | inr here ↦ absurd (other here.1)
            ]),
          )
    ];
  }

module _ (chip : LinkedChip) (u : ℕ) (part : Part) (is_part : slice_get chip.parts u ≡ Some part) (rows : List (List ℕ)) where
  -- no pin of the instance was seen yet
  pub pins_begin : (inputs : List ℕ) → HaveReaders chip (ReadsAmong chip u) rows → HaveReaders chip (ReadsSoFar chip u inputs 0) rows
  pins_begin inputs have = seen_same chip (ReadsAmong chip u) (ReadsSoFar chip u inputs 0) rows have (λ net w lt. (
    λ was. inl was,
    λ seen. elim seen [ inl was ↦ was | inr here ↦ absurd (let less = here.1.before in omega (arith, less)) ],
  ))

  -- all pins were
  pub pins_seen : (cell : ℕ) (inputs outputs : List ℕ) → part.body ≡ Gate cell inputs outputs → HaveReaders chip (ReadsSoFar chip u inputs (length inputs)) rows
      → HaveReaders chip (ReadsAmong chip (u + 1)) rows
  pins_seen cell inputs outputs is have = seen_same chip (ReadsSoFar chip u inputs (length inputs)) (ReadsAmong chip (u + 1)) rows have (λ net w lt. (
    λ seen. elim seen [
      | inl was ↦ ((let less = was.0 in omega (arith, less)), was.1)
      | inr here ↦ (
        (let e = here.0 in omega (arith, e)),
        subst (λ x. Reads chip x net) (sym here.0) (to_some (λ (p : Part). Contains (gate_inputs p.body) net) (slice_get chip.parts u) part is_part
            (subst (λ b. Contains (gate_inputs b) net) (sym is) (contained_at inputs here.1.pin net here.1.at))),
      )
    ],
    λ now. elim (ℕ_discrete w u) [
      | yes same ↦
          let read : Contains inputs net = subst (λ b. Contains (gate_inputs b) net) is
          (of_some (λ (p : Part). Contains (gate_inputs p.body) net) (slice_get chip.parts u) part is_part (subst (λ x. Reads chip x net) same now.1)) in
          inr (same, record { pin = read.0; before = read.1; at = place_of inputs net read })
      | no other ↦ inl ((let less = now.0 in omega (arith, less, other)), now.1)
    ],
  ))

  reads_none : (body : Body) (net : ℕ) → ((cell : ℕ) (inputs outputs : List ℕ) → body ≡ Gate cell inputs outputs → ⊥) → Contains (gate_inputs body) net → ⊥
  reads_none (Gate cell inputs outputs) net no_gate has = no_gate cell inputs outputs refl
  reads_none (Scan nets) net no_gate has = let lt = has.1 in omega (arith, lt)

  -- the instance is none of the library
  pub scan_passed : ((cell : ℕ) (inputs outputs : List ℕ) → part.body ≡ Gate cell inputs outputs → ⊥) → HaveReaders chip (ReadsAmong chip u) rows
      → HaveReaders chip (ReadsAmong chip (u + 1)) rows
  scan_passed no_gate have = seen_same chip (ReadsAmong chip u) (ReadsAmong chip (u + 1)) rows have (λ net w lt. (
    λ was. ((let less = was.0 in omega (arith, less)), was.1),
    λ now. elim (ℕ_discrete w u) [
      | yes same ↦ absurd (reads_none part.body net no_gate
          (of_some (λ (p : Part). Contains (gate_inputs p.body) net) (slice_get chip.parts u) part is_part (subst (λ x. Reads chip x net) same now.1)))
      | no other ↦ ((let less = now.0 in omega (arith, less, other)), now.1)
    ],
  ))

-- all instances were seen
pub readers_all : (chip : LinkedChip) (rows : List (List ℕ)) → HaveReaders chip (ReadsAmong chip (length chip.parts)) rows → AreReaders chip rows
readers_all chip rows have = seen_same chip (ReadsAmong chip (length chip.parts)) (λ net u. Reads chip u net) rows have (λ net u lt. (
  λ among. among.1,
  λ reads. (some_within (λ (p : Part). Contains (gate_inputs p.body) net) chip.parts u reads, reads),
))

-- they are those of the chip that has an order
pub readers_too : (chip : LinkedChip) (rows : List (List ℕ)) → AreReaders chip rows → (order : List ℕ) → AreReaders (record chip { order = order }) rows
readers_too chip rows are order = record { room = are.room; each = are.each }
