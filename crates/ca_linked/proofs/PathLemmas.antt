-- Marks of nets, as more are marked.
use Rattle.std.proofs.Common.{◌≡◌, ℕ, suc, ◌+◌, ◌<◌, Bool, true, false, List, [], ◌∷◌, ◌++◌, length, take}
use Rattle.std.proofs.Common.{refl, sym, ◌∙◌, ap, subst, arith, get_or, length-append}
use Rattle.std.specs.Prelude.{eqb, ◌||◌, ◌&&◌, not, Some, slice_get, slice_set, replicate, if◌then◌else◌}
use Rattle.std.specs.Prelude.{Option, None, option_to_list}
use Rattle.std.specs.List.{All, list_any}
use Rattle.std.proofs.Math.Seq.{take-suc}
use Rattle.std.proofs.lemmas.List.{get_or-set_same, get_or-set_other, length-set, get_or-replicate}
use Rattle.std.proofs.lemmas.List.{length-replicate, get_or-append-add}
use Rattle.std.proofs.lemmas.List.Elements.{All-nil, All-cons, All-append}
use Rattle.std.proofs.lemmas.List.Folds.{list_any-append}
use Rattle.std.proofs.lemmas.Bool.{ne_eqb, eq-eqb}
use Rattle.std.proofs.lemmas.Option.{slice_get_within, get_or_from_slice_get}
use mathlib.Core.Bool.{beq}
use native.Mathlib.Decide.{ℕ_discrete}
use Rattle.ca_linked.specs.Linked.{Body, Gate, Scan, input_nets, output_nets, path_nets, data_nets, Part}
use Rattle.ca_linked.specs.Linked.{PortBit, has}
use Rattle.ca_linked.specs.Paths.{mark_at, Marks, AreMarks, is_among, is_port_on}

or_false : (a : Bool) → (a || false) ≡ a
or_false true = refl
or_false false = refl

or_true : (a : Bool) → (a || true) ≡ true
or_true true = refl
or_true false = refl

or_assoc : (a b c : Bool) → ((a || b) || c) ≡ (a || (b || c))
or_assoc true b c = refl
or_assoc false b c = refl

-- no net is marked yet
pub marks_none : (old : List Bool) → Marks [] old old
marks_none old = record { count = refl; each = λ net lt. sym (or_false (mark_at old net)) }

-- one more is marked
pub mark_one : (old : List Bool) (at : ℕ) → at < length old → Marks (at ∷ []) old (slice_set old at true)
mark_one old at within = record {
  count = length-set old at true;
  each = λ net lt. elim (ℕ_discrete net at) [
    | yes same ↦
        ap (mark_at (slice_set old at true)) same ∙ get_or-set_same old at true false within
        ∙ sym (ap (λ b. mark_at old net || (b || false)) (eq-eqb net at same) ∙ or_true (mark_at old net))
    | no other ↦
        get_or-set_other old at net true false other
        ∙ sym (ap (λ b. mark_at old net || (b || false)) (ne_eqb net at other) ∙ or_false (mark_at old net))
  ];
}

-- two lists are marked
pub marks_both : (first second : List ℕ) (old mid new : List Bool) → Marks first old mid → Marks second mid new → Marks (first ++ second) old new
marks_both first second old mid new before after = record {
  count = after.count ∙ before.count;
  each = λ net lt.
      after.each net (subst (λ n. net < n) (sym before.count) lt)
      ∙ ap (λ b. b || has second net) (before.each net lt)
      ∙ or_assoc (mark_at old net) (has first net) (has second net)
      ∙ sym (ap (λ b. mark_at old net || b) (list_any-append (eqb net) first second));
}

-- the nets before a place of the list are marked, and the one there
pub marks_more : (nets : List ℕ) (k : ℕ) (old mid : List Bool) → k < length nets → Marks (take k nets) old mid → get_or nets k 0 < length mid
    → Marks (take (k + 1) nets) old (slice_set mid (get_or nets k 0) true)
marks_more nets k old mid lt before within =
    subst (λ list. Marks list old (slice_set mid (get_or nets k 0) true))
    (sym (ap (λ n. take n nets) (let e : k + 1 ≡ suc k = omega arith in e) ∙ take-suc nets k 0 lt))
    (marks_both (take k nets) (get_or nets k 0 ∷ []) old mid (slice_set mid (get_or nets k 0) true) before (mark_one mid (get_or nets k 0) within))

-- no net passes
pub marked_none : (count : ℕ) (test : ℕ → Bool) → ((net : ℕ) → test net ≡ false) → AreMarks count test (replicate count false)
marked_none count test none = record {
  room = length-replicate count false;
  each = λ net lt. get_or-replicate count net false false lt ∙ sym (none net);
}

-- the nets of one more instance are marked
pub part_marked : (nets : Body → List ℕ) (parts : List Part) (count u : ℕ) (part : Part) (old new : List Bool) → slice_get parts u ≡ Some part
    → AreMarks count (is_among nets (take u parts)) old → Marks (nets part.body) old new → AreMarks count (is_among nets (take (u + 1) parts)) new
part_marked nets parts count u part old new at before marked = record {
  room = marked.count ∙ before.room;
  each = λ net lt.
      marked.each net (subst (λ n. net < n) (sym before.room) lt)
      ∙ ap (λ b. b || has (nets part.body) net) (before.each net lt)
      ∙ sym (ap (λ list. is_among nets list net) more ∙ list_any-append (λ (p : Part). has (nets p.body) net) (take u parts) (part ∷ [])
      ∙ ap (λ b. is_among nets (take u parts) net || b) (or_false (has (nets part.body) net)));
}
  where
    more : take (u + 1) parts ≡ take u parts ++ part ∷ []
    more = ap (λ n. take n parts) (let e : u + 1 ≡ suc u = omega arith in e) ∙ take-suc parts u part (slice_get_within parts u part at)
        ∙ ap (λ p. take u parts ++ p ∷ []) (get_or_from_slice_get parts u part part at)

-- the tests of all are those of the whole list
pub all_marked : (count : ℕ) (test other : ℕ → Bool) (marks : List Bool) → ((net : ℕ) → test net ≡ other net) → AreMarks count test marks → AreMarks count other marks
all_marked count test other marks same are = record { room = are.room; each = λ net lt. are.each net lt ∙ same net }

-- a port bit of the direction is marked, or the bit is of the other
module _ (ports : List PortBit) (count p : ℕ) (port : PortBit) (input : Bool) (old : List Bool) (at : slice_get ports p ≡ Some port)
    (before : AreMarks count (λ net. list_any (is_port_on input net) (take p ports)) old) where
  next_port : (net : ℕ) → list_any (is_port_on input net) (take (p + 1) ports) ≡ (list_any (is_port_on input net) (take p ports) || is_port_on input net port)
  next_port net =
      ap (list_any (is_port_on input net)) (ap (λ n. take n ports) (let e : p + 1 ≡ suc p = omega arith in e) ∙ take-suc ports p port (slice_get_within ports p port at)
      ∙ ap (λ x. take p ports ++ x ∷ []) (get_or_from_slice_get ports p port port at))
      ∙ list_any-append (is_port_on input net) (take p ports) (port ∷ [])
      ∙ ap (λ b. list_any (is_port_on input net) (take p ports) || b) (or_false (is_port_on input net port))

  pub port_marked : (if port.is_input then input else not input) ≡ true → port.net < count
      → AreMarks count (λ net. list_any (is_port_on input net) (take (p + 1) ports)) (slice_set old port.net true)
  port_marked same within = record {
    room = length-set old port.net true ∙ before.room;
    each = λ net lt.
        (mark_one old port.net (subst (λ n. port.net < n) (sym before.room) within)).each net (subst (λ n. net < n) (sym before.room) lt)
        ∙ ap (λ b. b || has (port.net ∷ []) net) (before.each net lt)
        ∙ sym (next_port net ∙ ap (λ b. list_any (is_port_on input net) (take p ports) || b)
        (ap (λ b. b && eqb net port.net) same ∙ sym (or_false (eqb net port.net))));
  }

  pub port_unmarked : (if port.is_input then input else not input) ≡ false → AreMarks count (λ net. list_any (is_port_on input net) (take (p + 1) ports)) old
  port_unmarked other = record {
    room = before.room;
    each = λ net lt. before.each net lt
        ∙ sym (next_port net ∙ ap (λ b. list_any (is_port_on input net) (take p ports) || (b && eqb net port.net)) other
        ∙ or_false (list_any (is_port_on input net) (take p ports)));
  }

-- equal flags, and different ones
pub same_bool : (a b : Bool) → beq a b ≡ true → (if a then b else not b) ≡ true
same_bool true true e = refl
same_bool true false e = absurd (let clash : false ≡ true = e in cc)
same_bool false true e = absurd (let clash : false ≡ true = e in cc)
same_bool false false e = refl

pub other_bool : (a b : Bool) → beq a b ≡ false → (if a then b else not b) ≡ false
other_bool true true e = absurd (let clash : true ≡ false = e in cc)
other_bool true false e = refl
other_bool false true e = refl
other_bool false false e = absurd (let clash : true ≡ false = e in cc)

-- the nets of the scan path are among those of the pins, and so are the data nets
pub path_within : (P : ℕ → Type 0) (body : Body) → All P (input_nets body) → All P (output_nets body) → All P (path_nets body)
path_within P (Gate cell inputs outputs) ins outs = All-nil P
path_within P (Scan nets) ins outs =
    All-cons P nets.se (nets.ck ∷ nets.hold ∷ nets.si ∷ nets.so ∷ []) (ins 2 0 (omega arith))
    (All-cons P nets.ck (nets.hold ∷ nets.si ∷ nets.so ∷ []) (ins 3 0 (omega arith))
    (All-cons P nets.hold (nets.si ∷ nets.so ∷ []) (ins 4 0 (omega arith))
    (All-cons P nets.si (nets.so ∷ []) (ins 1 0 (omega arith))
    (All-cons P nets.so [] (last nets.qn outs) (All-nil P)))))
  where
    last : (qn : Option ℕ) → All P (nets.q ∷ (option_to_list qn ++ nets.so ∷ [])) → P nets.so
    last None all = all 1 0 (omega arith)
    last (Some net) all = all 2 0 (omega arith)

pub data_within : (P : ℕ → Type 0) (body : Body) → All P (input_nets body) → All P (output_nets body) → All P (data_nets body)
data_within P (Gate cell inputs outputs) ins outs = All-append P inputs outputs ins outs
data_within P (Scan nets) ins outs =
    All-cons P nets.d (nets.q ∷ option_to_list nets.qn) (ins 0 0 (omega arith))
    (All-cons P nets.q (option_to_list nets.qn) (outs 0 0 (omega arith)) (last nets.qn outs))
  where
    last : (qn : Option ℕ) → All P (nets.q ∷ (option_to_list qn ++ nets.so ∷ [])) → All P (option_to_list qn)
    last None all = All-nil P
    last (Some net) all = All-cons P net [] (all 1 0 (omega arith)) (All-nil P)

-- what holds of all data nets of a library instance holds of its outputs
pub all_outputs : (P : ℕ → Type 0) (body : Body) (cell : ℕ) (inputs outputs : List ℕ) → body ≡ Gate cell inputs outputs → All P (data_nets body) → All P outputs
all_outputs P body cell inputs outputs is all k d lt =
    let both : All P (inputs ++ outputs) = subst (λ b. All P (data_nets b)) is all in
    subst P (get_or-append-add inputs outputs k d) (both (length inputs + k) d (let l = length-append inputs outputs in omega (arith, l, lt)))
