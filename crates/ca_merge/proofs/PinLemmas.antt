-- The nets on pins of members, as the code finds them.
use Rattle.std.proofs.Common.{◌≡◌, ℕ, zero, suc, ◌+◌, ◌<◌, ◌≤◌, List, [], ◌∷◌, ◌++◌, length, take, Bool, true, false}
use Rattle.std.proofs.Common.{inl, inr, refl, sym, ◌∙◌, ap, subst, arith, get_or}
use Rattle.std.specs.Prelude.{◌||◌, ◌&&◌, not, Some, slice_get, if◌then◌else◌}
use Rattle.std.specs.List.{All, list_any, filter, range_with_len}
use Rattle.std.proofs.lemmas.Bool.{cases_lt}
use Rattle.std.proofs.lemmas.List.{length-append, get_or_append_left, get_or-append-add, get_or_push, take_more}
use Rattle.std.proofs.lemmas.List.Elements.{filter-append}
use Rattle.std.proofs.lemmas.List.Folds.{list_any-append}
use Rattle.std.proofs.lemmas.Option.{get_or_from_slice_get}
use Rattle.ca_linked.specs.declared.parts.Body.{Body}
use Rattle.ca_linked.specs.declared.parts.Part.{Part}
use Rattle.ca_linked.specs.declared.parts.Body.TheVariants.{Gate, Scan}
use Rattle.ca_linked.specs.Linked.{LinkedChip, net_count, has, data_nets, gate_inputs, gate_outputs, IsWired}
use Rattle.ca_linked.specs.Paths.{mark_at, Marks, AreMarks}
use Rattle.ca_linked.proofs.PartLemmas.{of_all}
use Rattle.ca_merged.proofs.Lists.{get_or_contains}
use Rattle.ca_merge.specs.Draft.{part_of, no_part, AreGates, reads_net, drives_net, feeds_members}
use Rattle.ca_merge.specs.code.Pins.{IsListed}
use Rattle.ca_merge.proofs.DraftLemmas.{gate_at}

-- a member at a place of the list is an instance
pub member_within : (chip : LinkedChip) (members : List ℕ) (k u : ℕ) → IsWired chip → AreGates chip members → k < length members
    → u ≡ get_or members k 0 → u < length chip.parts
member_within chip members k u is gates lt e =
    subst (λ x. x < length chip.parts) (sym e) (gate_at chip members is gates (get_or members k 0) (get_or_contains members k lt)).0

or_off : (a : Bool) → (a || false) ≡ a
or_off true = refl
or_off false = refl

-- a member has the net on one of these pins
abbrev pub on_pins : (Body → List ℕ) → LinkedChip → List ℕ → ℕ → Bool
on_pins nets chip members net = list_any (λ u. has (nets (part_of chip u).body) net) members

-- the nets of one more member are marked
pub member_marked : (nets : Body → List ℕ) (chip : LinkedChip) (members : List ℕ) (count k u : ℕ) (part : Part) (old new : List Bool)
    → k < length members → u ≡ get_or members k 0 → slice_get chip.parts u ≡ Some part
    → AreMarks count (on_pins nets chip (take k members)) old → Marks (nets part.body) old new
    → AreMarks count (on_pins nets chip (take (k + 1) members)) new
member_marked nets chip members count k u part old new lt e at before marked = record {
  room = marked.count ∙ before.room;
  each = λ net less.
      marked.each net (subst (λ n. net < n) (sym before.room) less)
      ∙ ap (λ b. b || has (nets part.body) net) (before.each net less)
      ∙ sym (ap (λ list. on_pins nets chip list net) (take_more members k 0 lt)
      ∙ list_any-append (λ u. has (nets (part_of chip u).body) net) (take k members) (get_or members k 0 ∷ [])
      ∙ ap (λ b. on_pins nets chip (take k members) net || b) (or_off (has (nets (part_of chip (get_or members k 0)).body) net)
      ∙ ap (λ (p : Part). has (nets p.body) net) (ap (part_of chip) (sym e) ∙ get_or_from_slice_get chip.parts u part no_part at)));
}

-- the data nets of an instance are nets
pub inputs_within : (chip : LinkedChip) (u count : ℕ) (part : Part) → IsWired chip → slice_get chip.parts u ≡ Some part → count ≡ net_count chip
    → All (λ net. net < count) (gate_inputs part.body)
inputs_within chip u count part is at e = subst (λ n. All (λ net. net < n) (gate_inputs part.body)) (sym e)
    (by part.body (of_all (λ (p : Part). All (λ net. net < net_count chip) (data_nets p.body)) chip.parts u part is.on_nets at))
  where
    by : (body : Body) → All (λ net. net < net_count chip) (data_nets body) → All (λ net. net < net_count chip) (gate_inputs body)
    by (Gate cell inputs outputs) all k d lt =
        subst (λ n. n < net_count chip) (get_or_append_left inputs outputs d k lt) (all k d (let l = length-append inputs outputs in omega arith))
    by (Scan nets) all k d lt = absurd (omega arith)

pub outputs_within : (chip : LinkedChip) (u count : ℕ) (part : Part) → IsWired chip → slice_get chip.parts u ≡ Some part → count ≡ net_count chip
    → All (λ net. net < count) (gate_outputs part.body)
outputs_within chip u count part is at e = subst (λ n. All (λ net. net < n) (gate_outputs part.body)) (sym e)
    (by part.body (of_all (λ (p : Part). All (λ net. net < net_count chip) (data_nets p.body)) chip.parts u part is.on_nets at))
  where
    by : (body : Body) → All (λ net. net < net_count chip) (data_nets body) → All (λ net. net < net_count chip) (gate_outputs body)
    by (Gate cell inputs outputs) all k d lt =
        subst (λ n. n < net_count chip) (get_or-append-add inputs outputs k d) (all (length inputs + k) d (let l = length-append inputs outputs in omega arith))
    by (Scan nets) all k d lt = absurd (omega arith)

-- the numbers of a range that pass, with one more
range_last : (a n j : ℕ) → a + n ≡ j → range_with_len a (suc n) ≡ range_with_len a n ++ j ∷ []
range_last a zero j e = let same : a ≡ j = omega arith in ap (λ k. k ∷ []) same
range_last a (suc n) j e = ap (λ l. a ∷ l) (range_last (a + 1) n j (omega arith))

pub passing_more : (p : ℕ → Bool) (n : ℕ) → filter p (range_with_len 0 (n + 1)) ≡ filter p (range_with_len 0 n) ++ (if p n then n ∷ [] else [])
passing_more p n =
    ap (λ k. filter p (range_with_len 0 k)) (let e : n + 1 ≡ suc n = omega arith in e)
    ∙ ap (filter p) (range_last 0 n n (omega arith)) ∙ filter-append p (range_with_len 0 n) (n ∷ [])

pub passing_few : (p : ℕ → Bool) (n : ℕ) → length (filter p (range_with_len 0 n)) ≤ n
passing_few p zero = omega arith
passing_few p (suc n) =
    let more : length (filter p (range_with_len 0 (suc n))) ≡ length (filter p (range_with_len 0 n)) + length (if p n then n ∷ [] else []) =
    ap (λ k. length (filter p (range_with_len 0 k))) (let e : suc n ≡ n + 1 = omega arith in e) ∙ ap (λ xs. length xs) (passing_more p n)
    ∙ length-append (filter p (range_with_len 0 n)) (if p n then n ∷ [] else []) in
    let one : length (if p n then n ∷ [] else []) ≤ 1 = by (p n) in
    let before = passing_few p n in
    omega arith
  where
    by : (b : Bool) → length (if b then n ∷ [] else []) ≤ 1
    by true = omega arith
    by false = omega arith

-- the marks of the nets that are read and of those that are driven show which are fed
pub fed_same : (chip : LinkedChip) (members : List ℕ) (read driven : List Bool) (net : ℕ) → AreMarks (net_count chip) (reads_net chip members) read
    → AreMarks (net_count chip) (drives_net chip members) driven → net < net_count chip
    → (mark_at read net && not (mark_at driven net)) ≡ feeds_members chip members net
fed_same chip members read driven net r d lt = let a = r.each net lt in let b = d.each net lt in cc

pub listed_none : (test : ℕ → Bool) (first : ℕ) → IsListed test first 0 [] []
listed_none test first = record { listed = refl; room = refl; each = λ net lt. absurd (omega arith) }

-- with the next net, which is listed if it passes
pub listed_more : (test : ℕ → Bool) (first net : ℕ) (passed : Bool) (nets seats new_nets new_seats : List ℕ) → IsListed test first net nets seats
    → passed ≡ test net → new_nets ≡ nets ++ (if passed then net ∷ [] else []) → new_seats ≡ seats ++ (first + length nets) ∷ []
    → IsListed test first (net + 1) new_nets new_seats
listed_more test first net passed nets seats new_nets new_seats before same grown seated = record {
  listed = grown ∙ ap (λ b. nets ++ (if b then net ∷ [] else [])) same ∙ ap (λ xs. xs ++ (if test net then net ∷ [] else [])) before.listed
      ∙ sym (passing_more test net);
  room = ap (λ xs. length xs) seated ∙ length-append seats ((first + length nets) ∷ []) ∙ ap (λ n. n + 1) before.room;
  each = λ n lt.
      let room = before.room in
      ap (λ xs. get_or xs n 0) seated ∙ elim (cases_lt n net) [
        | inl less ↦ get_or_append_left seats ((first + length nets) ∷ []) 0 n (omega arith) ∙ before.each n less
        | inr ge ↦
            let e : length seats ≡ n = omega arith in
            get_or_push seats (first + length nets) 0 n e
            ∙ ap (λ xs. first + length xs) (before.listed ∙ ap (λ k. filter test (range_with_len 0 k)) (let s : net ≡ n = omega arith in s))
      ];
}
