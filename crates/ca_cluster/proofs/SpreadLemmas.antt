-- Marks that spread.
use Rattle.std.proofs.Common.{◌≡◌, ℕ, ◌+◌, ◌<◌, ◌≤◌, ◌⊎◌, List, length, Bool, true, false, inl, inr, refl, sym, ◌∙◌, ap, subst}
use Rattle.std.proofs.Common.{arith, get_or, Option, Some, None}
use Rattle.std.specs.Prelude.{slice_get, slice_set, IsSomeAnd, ◌↔◌}
use Rattle.std.specs.List.{All, Contains}
use Rattle.std.proofs.lemmas.Bool.{cases_lt, cases_eq, or_cases, or_left, or_right, false≢true}
use Rattle.std.proofs.lemmas.List.{get_or_past, get_or-set_same, get_or-set_other, length-set}
use Rattle.std.proofs.lemmas.Option.{slice_get_within}
use Rattle.ca_linked.specs.declared.parts.Part.{Part}
use Rattle.ca_linked.specs.declared.parts.ScanNets.{ScanNets}
use Rattle.ca_linked.specs.declared.parts.Body.TheVariants.{Scan}
use Rattle.ca_linked.specs.Linked.{LinkedChip, IsGate, IsLibrary, has, gate_inputs, gate_outputs}
use Rattle.ca_linked.specs.Reading.{Reads, AreReadersOf}
use Rattle.ca_linked.specs.Paths.{mark_at, Marks}
use Rattle.ca_linked.proofs.OrderLemmas.{place_of, contained_at}
use Rattle.std.proofs.lemmas.List.Elements.{Contains-get_or}
use Rattle.ca_linked.proofs.PartLemmas.{has_contains, contains_has, of_list}
use Rattle.ca_view.proofs.PartFacts.{gate_at, some_at, at_some}
use Rattle.ca_cluster.specs.code.Ends.{IsOnOutput}
use Rattle.ca_cluster.specs.code.Marks.{Spreads, ByNet, Onward, Back}
use Rattle.ca_cluster.proofs.FeedLemmas.{gate_on}

pub spread_none : (New : ℕ → Type 0) (old : List Bool) → ((x : ℕ) → New x → ⊥) → Spreads New old old
spread_none New old none = record {
  room = refl;
  each = λ x. (λ h. inl h, λ h. elim h [ inl o ↦ o | inr n ↦ absurd (none x n) ]);
}

pub spread_then : (First Second Both : ℕ → Type 0) (old mid new : List Bool) → Spreads First old mid → Spreads Second mid new
    → ((x : ℕ) → Both x ↔ (First x ⊎ Second x)) → Spreads Both old new
spread_then First Second Both old mid new one two same = record {
  room = two.room ∙ one.room;
  each = λ x. (
    λ h. elim ((two.each x).0 h) [
      | inl m ↦ elim ((one.each x).0 m) [ inl o ↦ inl o | inr f ↦ inr ((same x).1 (inl f)) ]
      | inr s ↦ inr ((same x).1 (inr s))
    ],
    λ h. elim h [
      | inl o ↦ (two.each x).1 (inl ((one.each x).1 (inl o)))
      | inr b ↦ elim ((same x).0 b) [
        | inl f ↦ (two.each x).1 (inl ((one.each x).1 (inr f)))
        | inr s ↦ (two.each x).1 (inr s)
      ]
    ],
  );
}

pub spread_same : (New Also : ℕ → Type 0) (old new : List Bool) → ((x : ℕ) → New x ↔ Also x) → Spreads New old new → Spreads Also old new
spread_same New Also old new same s = record {
  room = s.room;
  each = λ x. (
    λ h. elim ((s.each x).0 h) [ inl o ↦ inl o | inr n ↦ inr ((same x).0 n) ],
    λ h. elim h [ inl o ↦ (s.each x).1 (inl o) | inr a ↦ (s.each x).1 (inr ((same x).1 a)) ],
  );
}

-- a mark is within the list
pub mark_within : (marks : List Bool) (x : ℕ) → mark_at marks x ≡ true → x < length marks
mark_within marks x h = elim (cases_lt x (length marks)) [
  | inl lt ↦ lt
  | inr past ↦ absurd (false≢true (sym (get_or_past marks x false past) ∙ h))
]

-- the instances of a list are marked
pub list_spread : (list : List ℕ) (old new : List Bool) → All (λ x. x < length old) list → Marks list old new → Spreads (λ x. Contains list x) old new
list_spread list old new within marked = record {
  room = marked.count;
  each = λ x. (
    λ h.
        let lt : x < length old = let w = mark_within new x h in let c = marked.count in omega arith in
        elim (or_cases (mark_at old x) (has list x) (sym (marked.each x lt) ∙ h)) [
          | inl o ↦ inl o
          | inr n ↦ inr (has_contains list x n)
        ],
    λ h. elim h [
      | inl o ↦ marked.each x (mark_within old x o) ∙ or_left (mark_at old x) (has list x) o
      | inr c ↦
          let lt : x < length old = subst (λ y. y < length old) c.2 (within c.0 x c.1) in
          marked.each x lt ∙ or_right (mark_at old x) (has list x) (contains_has list x c)
    ],
  );
}

-- one instance is marked
pub one_spread : (u : ℕ) (old new : List Bool) → u < length old → new ≡ slice_set old u true → Spreads (λ x. Some u ≡ Some x) old new
one_spread u old new lt same = record {
  room = ap (λ ms. length ms) same ∙ length-set old u true;
  each = λ x. (
    λ h. elim (cases_eq u x) [
      | inl e ↦ inr (ap Some e)
      | inr ne ↦ inl (sym (get_or-set_other old u x true false (λ e. ne (sym e))) ∙ sym (ap (λ ms. mark_at ms x) same) ∙ h)
    ],
    λ h. elim h [
      | inl o ↦ elim (cases_eq u x) [
        | inl e ↦ ap (λ ms. mark_at ms x) same ∙ ap (mark_at (slice_set old u true)) (sym e) ∙ get_or-set_same old u true false lt
        | inr ne ↦ ap (λ ms. mark_at ms x) same ∙ get_or-set_other old u x true false (λ e. ne (sym e)) ∙ o
      ]
      | inr e ↦
          let n : u ≡ x = cc in
          ap (λ ms. mark_at ms x) same ∙ ap (mark_at (slice_set old u true)) (sym n) ∙ get_or-set_same old u true false lt
    ],
  );
}

-- the nets of a list, with the next
module _ (Holds : ℕ → ℕ → Type 0) (nets : List ℕ) (count net : ℕ) (at : slice_get nets count ≡ Some net) where
  pub net_more : (x : ℕ) → ByNet Holds nets (count + 1) x ↔ (ByNet Holds nets count x ⊎ Holds net x)
  net_more x = (
    λ b. elim (cases_lt b.place count) [
      | inl lt ↦ inl (record { place = b.place; before = lt; net = b.net; at = b.at; holds = b.holds })
      | inr ge ↦
          let e : b.place ≡ count = let lt = b.before in omega arith in
          let both : Some b.net ≡ Some net = sym b.at ∙ ap (slice_get nets) e ∙ at in
          let same : b.net ≡ net = cc in
          inr (subst (λ k. Holds k x) same b.holds)
    ],
    λ h. elim h [
      | inl b ↦ record { place = b.place; before = (let lt = b.before in omega arith); net = b.net; at = b.at; holds = b.holds }
      | inr n ↦ record { place = count; before = omega arith; net = net; at = at; holds = n }
    ],
  )

pub net_none : (Holds : ℕ → ℕ → Type 0) (nets : List ℕ) (x : ℕ) → ByNet Holds nets 0 x → ⊥
net_none Holds nets x b = let lt = b.before in omega arith

-- those that read a net
pub reads_part : (chip : LinkedChip) (x net : ℕ) → Reads chip x net → (part : Part) × (slice_get chip.parts x ≡ Some part) × Contains (gate_inputs part.body) net
reads_part chip x net h = by (slice_get chip.parts x) refl h
  where
    by : (o : Option Part) → slice_get chip.parts x ≡ o → IsSomeAnd o (λ part. Contains (gate_inputs part.body) net)
        → (part : Part) × (slice_get chip.parts x ≡ Some part) × Contains (gate_inputs part.body) net
    by None e h = absurd h
    by (Some part) e h = (part, e, h)

pub reader_known : (chip : LinkedChip) (x net : ℕ) → Reads chip x net → x < length chip.parts
reader_known chip x net h = let r = reads_part chip x net h in slice_get_within chip.parts x r.0 r.1

-- the readers of the nets of its output pins are those that an instance feeds
module _ (chip : LinkedChip) (u : ℕ) (part : Part) (at : slice_get chip.parts u ≡ Some part) where
  same_part : (other : Part) → slice_get chip.parts u ≡ Some other → other ≡ part
  same_part other e = let both : Some other ≡ Some part = sym e ∙ at in cc

  pub fed_by : (outputs : List ℕ) (count : ℕ) → gate_outputs part.body ≡ outputs → length outputs ≤ count
      → (x : ℕ) → ByNet (λ net x. Reads chip x net) outputs count x ↔ Onward chip u x
  fed_by outputs count same past x = (
    λ b.
        let r = reads_part chip x b.net b.holds in
        record {
          driver = part;
          reader = r.0;
          is_driver = at;
          is_reader = r.1;
          net = b.net;
          driven = subst (λ xs. Contains xs b.net) (sym same) (contained_at outputs b.place b.net b.at);
          read = r.2;
        },
    λ f.
        let d : Contains outputs f.net = subst (λ xs. Contains xs f.net) same (subst (λ (p : Part). Contains (gate_outputs p.body) f.net) (same_part f.driver f.is_driver) f.driven) in
        record {
          place = d.0;
          before = (let lt = d.1 in omega arith);
          net = f.net;
          at = place_of outputs f.net d;
          holds = some_at (λ p. Contains (gate_inputs p.body) f.net) chip.parts x f.reader f.is_reader f.read;
        },
  )

  pub feeding_by : (inputs : List ℕ) (count : ℕ) → gate_inputs part.body ≡ inputs → length inputs ≤ count
      → (x : ℕ) → ByNet (IsOnOutput chip) inputs count x ↔ Back chip u x
  feeding_by inputs count same past x = (
    λ b.
        let g = gate_on chip b.net x b.holds in
        record {
          driver = g.part;
          reader = part;
          is_driver = g.at;
          is_reader = at;
          net = b.net;
          driven = g.on;
          read = subst (λ xs. Contains xs b.net) (sym same) (contained_at inputs b.place b.net b.at);
        },
    λ f.
        let r : Contains inputs f.net = subst (λ xs. Contains xs f.net) same (subst (λ (p : Part). Contains (gate_inputs p.body) f.net) (same_part f.reader f.is_reader) f.read) in
        record {
          place = r.0;
          before = (let lt = r.1 in omega arith);
          net = f.net;
          at = place_of inputs f.net r;
          holds = some_at (λ p. Contains (gate_outputs p.body) f.net) chip.parts x f.driver f.is_driver f.driven;
        },
  )

pub none_given : (o : Option ℕ) (x : ℕ) → o ≡ None → o ≡ Some x → ⊥
none_given o x e f = let g : None ≡ Some x = sym e ∙ f in cc

pub net_here : (nets : List ℕ) (k net count : ℕ) → All (λ n. n < count) nets → slice_get nets k ≡ Some net → net < count
net_here nets k net count all at = of_list (λ n. n < count) nets net all (contained_at nets k net at)

pub readers_within : (chip : LinkedChip) (net : ℕ) (list slice : List ℕ) (marks : List Bool) → length marks ≡ length chip.parts
    → AreReadersOf chip net list → slice ≡ list → All (λ x. x < length marks) slice
readers_within chip net list slice marks room are same k d lt =
    let c : Contains list (get_or slice k d) = subst (λ xs. Contains xs (get_or slice k d)) same (Contains-get_or slice k d lt) in
    let known = reader_known chip (get_or slice k d) net ((are (get_or slice k d)).0 c) in
    omega arith

-- the readers of the next net are marked
pub readers_spread : (chip : LinkedChip) (nets : List ℕ) (k net : ℕ) (list slice : List ℕ) (first old new : List Bool) → length old ≡ length chip.parts
    → slice_get nets k ≡ Some net → AreReadersOf chip net list → slice ≡ list → Spreads (ByNet (λ n x. Reads chip x n) nets k) first old → Marks slice old new
    → Spreads (ByNet (λ n x. Reads chip x n) nets (k + 1)) first new
readers_spread chip nets k net list slice first old new room at are same before marked =
    let s : Spreads (λ x. Contains slice x) old new = list_spread slice old new (readers_within chip net list slice old room are same) marked in
    let t : Spreads (λ x. Reads chip x net) old new =
    spread_same (λ x. Contains slice x) (λ x. Reads chip x net) old new
    (λ x. (λ c. (are x).0 (subst (λ xs. Contains xs x) same c), λ r. subst (λ xs. Contains xs x) (sym same) ((are x).1 r))) s in
    spread_then (ByNet (λ n x. Reads chip x n) nets k) (λ x. Reads chip x net) (ByNet (λ n x. Reads chip x n) nets (k + 1)) first old new before t
    (net_more (λ n x. Reads chip x n) nets k net at)

pub driver_within : (chip : LinkedChip) (net x : ℕ) → IsOnOutput chip net x → x < length chip.parts
driver_within chip net x h = let g = gate_on chip net x h in slice_get_within chip.parts x g.part g.at

-- the driver of the next net is marked
pub drivers_spread : (chip : LinkedChip) (nets : List ℕ) (k net : ℕ) (o : Option ℕ) (first old new : List Bool)
    → slice_get nets k ≡ Some net → ((x : ℕ) → (o ≡ Some x) ↔ IsOnOutput chip net x) → Spreads (ByNet (IsOnOutput chip) nets k) first old
    → Spreads (λ x. o ≡ Some x) old new → Spreads (ByNet (IsOnOutput chip) nets (k + 1)) first new
drivers_spread chip nets k net o first old new at found before marked =
    spread_then (ByNet (IsOnOutput chip) nets k) (λ x. IsOnOutput chip net x) (ByNet (IsOnOutput chip) nets (k + 1)) first old new before
    (spread_same (λ x. o ≡ Some x) (λ x. IsOnOutput chip net x) old new found marked)
    (net_more (IsOnOutput chip) nets k net at)

pub count_end : (Holds : ℕ → ℕ → Type 0) (nets : List ℕ) (k : ℕ) (old new : List Bool) → k ≡ length nets → Spreads (ByNet Holds nets k) old new
    → Spreads (ByNet Holds nets (length nets)) old new
count_end Holds nets k old new e s = subst (λ n. Spreads (ByNet Holds nets n) old new) e s

pub library_known : (chip : LinkedChip) (u : ℕ) → IsLibrary chip u → u < length chip.parts
library_known chip u library = let g = gate_at chip u library in slice_get_within chip.parts u g.part g.at

pub no_scan : (chip : LinkedChip) (u : ℕ) (part : Part) (nets : ScanNets) → IsLibrary chip u → slice_get chip.parts u ≡ Some part → part.body ≡ Scan nets → ⊥
no_scan chip u part nets library at body =
    subst IsGate body (at_some (λ p. IsGate p.body) chip.parts u part at library)
