-- The numbers of the first nets.
use Rattle.std.proofs.Common.{◌≡◌, ℕ, suc, ◌+◌, ◌^◌, ◌<◌, ◌≤◌, List, [], ◌∷◌, ◌++◌, length, inl, inr, refl}
use Rattle.std.proofs.Common.{sym, ◌∙◌, ap, arith, get_or, length-append}
use Rattle.std.specs.Prelude.{if◌then◌else◌}
use Rattle.std.proofs.lemmas.List.{get_or_append_left, get_or-append-add}
use Rattle.std.proofs.lemmas.Bool.{cases_lt}
use Rattle.ca_linked.specs.Linked.{LinkedChip, net_count, is_scan_path}
use Rattle.ca_view.specs.Core.{core_net}
use Rattle.ca_view.specs.Numbers.{AreCoreNumbers}
use Rattle.ca_view.proofs.CoreLemmas.{length-core_kinds}

-- the first nets have their numbers, and the next will have this one
pub record AreFirstNumbers (chip : LinkedChip) (net : ℕ) (numbers : List ℕ) (count : ℕ) : Type 0 where
  pub room : length numbers ≡ net
  pub each : (n : ℕ) → n < net → get_or numbers n 0 ≡ core_net chip n
  pub next : count ≡ core_net chip net
  pub few : count ≤ net

pub first_none : (chip : LinkedChip) → AreFirstNumbers chip 0 [] 0
unfolding core_net
first_none chip = record { room = refl; each = λ n lt. absurd (omega arith); next = refl; few = omega arith }

pub first_more : (chip : LinkedChip) (net : ℕ) (numbers : List ℕ) (count next : ℕ) → AreFirstNumbers chip net numbers count
    → next ≡ count + (if is_scan_path chip net then 0 else 1) → next ≤ net + 1 → AreFirstNumbers chip (net + 1) (numbers ++ count ∷ []) next
unfolding core_net
first_more chip net numbers count next first is few = record {
  room = (let l = length-append numbers (count ∷ []) in let r = first.room in omega arith);
  each = λ n lt. elim (cases_lt n net) [
    | inl before ↦ get_or_append_left numbers (count ∷ []) 0 n (let r = first.room in omega arith) ∙ first.each n before
    | inr past ↦
        let here : n ≡ length numbers + 0 = let r = first.room in omega arith in
        ap (λ k. get_or (numbers ++ count ∷ []) k 0) here ∙ get_or-append-add numbers (count ∷ []) 0 0
        ∙ first.next ∙ ap (core_net chip) (let r = first.room in let e : net ≡ n = omega arith in e)
  ];
  next = is ∙ ap (λ c. c + (if is_scan_path chip net then 0 else 1)) first.next
      ∙ ap (core_net chip) (let e : suc net ≡ net + 1 = omega arith in e);
  few = few;
}

-- all of them are the table
pub all_numbered : (chip : LinkedChip) (net : ℕ) (numbers : List ℕ) (count : ℕ) → AreFirstNumbers chip net numbers count → net ≡ net_count chip → net < 2 ^ 32
    → AreCoreNumbers chip (record { numbers = numbers; count = count })
all_numbered chip net numbers count first same few = record {
  room = first.room ∙ same;
  each = λ n lt. first.each n (omega arith);
  total = first.next ∙ ap (core_net chip) same ∙ sym (length-core_kinds chip (net_count chip));
  few = omega arith;
}
