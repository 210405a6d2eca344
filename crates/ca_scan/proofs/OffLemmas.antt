-- The whole chains, as they are listed, and which scan instances are on one.
use Rattle.std.proofs.Common.{◌≡◌, ℕ, zero, suc, ◌+◌, ◌<◌, ◌≤◌, Bool, true, false, ◌||◌, List, [], ◌∷◌, ◌++◌}
use Rattle.std.proofs.Common.{length, take, refl, sym, ap, ◌∙◌, subst, arith, length-append}
use Rattle.std.specs.Prelude.{eqb, Option, Some, None, IsSomeAnd, slice_get, if◌then◌else◌, option_to_list}
use Rattle.std.specs.List.{flat_map}
use Rattle.std.proofs.lemmas.Bool.{eqb-true, eq-eqb}
use Rattle.std.proofs.lemmas.Option.{slice_get_within, slice_get-get_or}
use Rattle.std.proofs.lemmas.Grind.{flat_map-append}
use Rattle.ca_linked.specs.declared.parts.PortBit.{PortBit}
use Rattle.ca_linked.specs.Linked.{LinkedChip, has}
use Rattle.ca_linked.specs.Instances.{scans_of}
use Rattle.ca_scan.specs.Chain.{count_of, IsChainAt, AreChainsOf, AreChains, IsOnChain, AreOnChains}
use Rattle.ca_scan.specs.Chain.{IsFirstOff}
use Rattle.ca_scan.specs.code.Kept.{up_to_three, tally_at, Counts, Adds, all_of, AreOnChainsBefore}
use Rattle.ca_scan.proofs.CountLemmas.{counted, item_of}
use Rattle.ca_scan.proofs.ChainLemmas.{one_found}
use Rattle.ca_scan.proofs.JointLemmas.{counts_more, scan_at, scan_place, scans_rise}
use Rattle.ca_scan.proofs.FollowLemmas.{IsFound, found_in}

-- no chain is listed yet
pub chains_none : (chip : LinkedChip) → AreChainsOf chip 0 []
chains_none chip = record { at_port = []; room = refl; each = λ p found at. absurd (let clash : None ≡ Some found = at in cc); all = refl }

-- what is in a list with one more at its end
in_longer : {X : Type 0} (xs : List X) (last : X) (P : ℕ → X → Type 0) → ((k : ℕ) (x : X) → slice_get xs k ≡ Some x → P k x) → P (length xs) last
    → (k : ℕ) (x : X) → slice_get (xs ++ last ∷ []) k ≡ Some x → P k x
in_longer [] last P each here zero x at = let same : last ≡ x = cc in subst (P 0) same here
in_longer [] last P each here (suc k) x at = absurd (let clash : None ≡ Some x = at in cc)
in_longer (y ∷ xs) last P each here zero x at = each 0 x at
in_longer (y ∷ xs) last P each here (suc k) x at = in_longer xs last (λ j z. P (suc j) z) (λ j z at_j. each (suc j) z at_j) here k x at

-- the chain of one port bit more
pub chains_more : (chip : LinkedChip) (p : ℕ) (chains : List (List ℕ)) (found : Option (List ℕ)) (new : List (List ℕ)) → AreChainsOf chip p chains → IsChainAt chip p found
    → new ≡ chains ++ option_to_list found → AreChainsOf chip (p + 1) new
chains_more chip p chains found new are is made = record {
  at_port = are.at_port ++ found ∷ [];
  room = length-append are.at_port (found ∷ []) ∙ ap (λ n. n + 1) are.room;
  each = in_longer are.at_port found (IsChainAt chip) are.each (subst (λ n. IsChainAt chip n found) (sym are.room) is);
  all = made ∙ ap (λ list. list ++ option_to_list found) are.all
      ∙ sym (flat_map-append option_to_list are.at_port (found ∷ []) ∙ ap (λ list. flat_map option_to_list are.at_port ++ list) (append_nil_of (option_to_list found)));
}
  where
    append_nil_of : (xs : List (List ℕ)) → xs ++ [] ≡ xs
    append_nil_of [] = refl
    append_nil_of (x ∷ xs) = ap (λ ys. x ∷ ys) (append_nil_of xs)

pub chains_all : (chip : LinkedChip) (count : ℕ) (chains : List (List ℕ)) → count ≡ length chip.ports → AreChainsOf chip count chains → AreChains chip chains
chains_all chip count chains all are = subst (λ n. AreChainsOf chip n chains) all are

-- the instances of a chain, if there is one
members : Option (List ℕ) → List ℕ
members None = []
members (Some chain) = chain

all_members : (found : List (Option (List ℕ))) → all_of (flat_map option_to_list found) ≡ flat_map members found
unfolding members
all_members [] = refl
all_members (None ∷ found) = all_members found
all_members (Some chain ∷ found) = ap (λ rest. chain ++ rest) (all_members found)

-- the instances of one chain more
pub marks_more : (chains : List (List ℕ)) (k : ℕ) (old new : List ℕ) → IsSomeAnd (slice_get chains k) (λ chain. Adds chain old new)
    → Counts old (all_of (take k chains)) → Counts new (all_of (take (k + 1) chains))
marks_more chains k old new there counts =
    let found = item_of chains k (λ chain. Adds chain old new) there in
    counts_more (λ chain. chain) chains k found.item found.at old new counts found.has

-- an instance is counted in a chain where the chain has it
has_counted : (u : ℕ) (chain : List ℕ) → 1 ≤ count_of u chain → has chain u ≡ true
unfolding count_of
has_counted u [] some = absurd (omega (arith, some))
has_counted u (v ∷ chain) some = by (eqb u v) some (has_counted u chain)
  where
    by : (test : Bool) → 1 ≤ (if test then 1 else 0) + count_of u chain → (1 ≤ count_of u chain → has chain u ≡ true) → (test || has chain u) ≡ true
    by true one later = refl
    by false one later = later (omega (arith, one))

counted_has : (u : ℕ) (chain : List ℕ) → has chain u ≡ true → 1 ≤ count_of u chain
unfolding count_of
counted_has u [] there = absurd cc
counted_has u (v ∷ chain) there = by (eqb u v) there (counted_has u chain)
  where
    by : (test : Bool) → (test || has chain u) ≡ true → (has chain u ≡ true → 1 ≤ count_of u chain) → 1 ≤ (if test then 1 else 0) + count_of u chain
    by true one later = omega arith
    by false one later = let more = later one in omega (arith, more)

module _ (chip : LinkedChip) (chains : List (List ℕ)) (are : AreChains chip chains) (marks : List ℕ) (counts : Counts marks (all_of chains)) (u : ℕ) where
  reported : tally_at marks u ≡ up_to_three (count_of u (flat_map members are.at_port))
  reported = counts u ∙ ap (λ list. up_to_three (count_of u list)) (ap all_of are.all ∙ all_members are.at_port)

  pub on_marked : (tally_at marks u ≡ 0 → ⊥) → IsOnChain chip u
  unfolding members count_of
  on_marked some = from_found (found_in members u are.at_port counted_there)
    where
      counted_there : 1 ≤ count_of u (flat_map members are.at_port)
      counted_there = by (count_of u (flat_map members are.at_port)) refl
        where
          by : (count : ℕ) → count_of u (flat_map members are.at_port) ≡ count → 1 ≤ count
          by zero is = absurd (some (reported ∙ ap up_to_three is))
          by (suc count) is = omega arith

      of_item : (p : ℕ) (found : Option (List ℕ)) → slice_get are.at_port p ≡ Some found → 1 ≤ count_of u (members found) → IsOnChain chip u
      of_item p None at here = absurd (omega (arith, here))
      of_item p (Some chain) at here = record { port = p; chain = chain; whole = are.each p (Some chain) at; there = has_counted u chain here }

      from_found : IsFound members u are.at_port → IsOnChain chip u
      from_found found = of_item found.place found.item found.at found.here

  pub off_unmarked : tally_at marks u ≡ 0 → IsOnChain chip u → ⊥
  unfolding members
  off_unmarked none on =
      let at = item_of chip.ports on.port (λ (port : PortBit). (port.is_input ≡ true) × (port.net ≡ on.whole.net)) on.whole.at in
      let size = slice_get_within chip.ports on.port at.item at.at in
      let below : on.port < length are.at_port = subst (λ n. on.port < n) (sym are.room) size in
      let there = slice_get-get_or are.at_port on.port None below in
      let same = one_found chip on.port _ (Some on.chain) (are.each on.port _ there) on.whole in
      let here : slice_get are.at_port on.port ≡ Some (Some on.chain) = there ∙ ap Some same in
      let some = counted members u are.at_port on.port (Some on.chain) here (counted_has u on.chain on.there) in
      let zero_count = none_counted (count_of u (flat_map members are.at_port)) (sym reported ∙ none) in
      omega (arith, some, zero_count)
    where
      none_counted : (n : ℕ) → up_to_three n ≡ 0 → n ≡ 0
      none_counted zero is = refl
      none_counted (suc zero) is = absurd cc
      none_counted (suc (suc zero)) is = absurd cc
      none_counted (suc (suc (suc n))) is = absurd cc

-- one scan instance more is on a whole chain
pub on_more : (chip : LinkedChip) (k u : ℕ) → slice_get (scans_of chip) k ≡ Some u → AreOnChainsBefore chip k → IsOnChain chip u → AreOnChainsBefore chip (k + 1)
on_more chip k u at before on j v less at_v = by (eqb j k) refl
  where
    by : (test : Bool) → eqb j k ≡ test → IsOnChain chip v
    by true same =
        let one : Some u ≡ Some v = sym at ∙ ap (slice_get (scans_of chip)) (sym (eqb-true j k same)) ∙ at_v in
        let is : u ≡ v = cc in
        subst (IsOnChain chip) is on
    by false other = before j v (smaller j k less other) at_v
      where
        smaller : (a b : ℕ) → a < b + 1 → eqb a b ≡ false → a < b
        smaller a b less other = apart (λ same. let clash : true ≡ false = sym (eq-eqb a b same) ∙ other in cc)
          where
            apart : (a ≡ b → ⊥) → a < b
            apart differs = omega (arith, less, differs)

pub all_on : (chip : LinkedChip) (count : ℕ) → length (scans_of chip) ≤ count → AreOnChainsBefore chip count → AreOnChains chip
all_on chip count all before u scan =
    let place = scan_place chip u scan in
    let below = slice_get_within (scans_of chip) place.0 u place.1 in
    before place.0 u (omega (arith, all, below)) place.1

pub first_off_at : (chip : LinkedChip) (k u : ℕ) → slice_get (scans_of chip) k ≡ Some u → AreOnChainsBefore chip k → (IsOnChain chip u → ⊥) → IsFirstOff chip u
first_off_at chip k u at before off = record {
  scan = scan_at chip k u at;
  off = off;
  none_before = λ v less scan.
      let place = scan_place chip v scan in
      before place.0 v (scans_rise chip place.0 k v u place.1 at less) place.1;
}
