-- The instances after a cluster: those to which a chain leads from a member.
use Rattle.std.proofs.Common.{◌≡◌, ℕ, zero, suc, ◌+◌, ◌-◌, ◌<◌, List, [], ◌∷◌, ◌++◌, Bool, true}
use Rattle.std.proofs.Common.{false, eqb, inl, inr, sym, ◌∙◌, ap, subst, arith}
use Rattle.std.specs.Prelude.{not, ◌&&◌, ◌||◌}
use Rattle.std.specs.List.{Contains, list_any, range_with_len}
use Rattle.std.proofs.lemmas.Bool.{and_parts, and_from, or_cases, or_left, or_right, not-true}
use Rattle.std.proofs.lemmas.Bool.{not_from_false, both_ways, false≢true, cases_Bool}
use Rattle.std.proofs.lemmas.List.Folds.{Any-from_list_any, list_any_at}
use Rattle.std.proofs.lemmas.List.Elements.{Contains-push}
use Rattle.std.proofs.lemmas.List.FromFn.{length-range_with_len, get_or-range_with_len}
use Rattle.ca_flat.specs.Chip.{Chip, IsChip, inputs_at, outputs_at, net_of, output_net, count_of}
use Rattle.ca_merged.specs.Cluster.{is_member, read_nets}
use Rattle.ca_merged.specs.Merged.{FeedsInstance, IsInstanceChain, AreMembers}
use Rattle.ca_merged.proofs.Lists.{listed_contains, contains_listed}
use Rattle.ca_merged.proofs.Nets.{given_from, given_at}

-- the marked instances are those after the cluster
pub record AreAfter (chip : Chip) (members : List ℕ) (after : ℕ → Bool) : Type 0 where
  pub begins : (u w : ℕ) → Contains members u → FeedsInstance chip u w → (Contains members w → ⊥) → after w ≡ true
  pub goes_on : (u w : ℕ) → after u ≡ true → FeedsInstance chip u w → after w ≡ true
  pub leaves : (u : ℕ) → after u ≡ true → Contains members u → ⊥

-- some number below the bound passes
module _ (test : ℕ → Bool) (n : ℕ) where
  pub record SomeBelow : Type 0 where
    pub number : ℕ
    pub below : number < n
    pub holds : test number ≡ true

  some_below : list_any test (range_with_len 0 n) ≡ true → SomeBelow
  some_below h =
      let a = Any-from_list_any test (range_with_len 0 n) h in
      let l = length-range_with_len 0 n in
      let k = a.2 in
      let lt : a.0 < n = omega arith in
      let e : a.1 ≡ a.0 = sym a.3 ∙ get_or-range_with_len 0 n a.0 a.1 lt ∙ (omega arith) in
      record { number = a.0; below = lt; holds = ap test (sym e) ∙ a.4 }

  below_holds : (k : ℕ) → k < n → test k ≡ true → list_any test (range_with_len 0 n) ≡ true
  below_holds k lt h =
      let l = length-range_with_len 0 n in
      list_any_at test (range_with_len 0 n) k 0 (omega arith) (ap test (get_or-range_with_len 0 n k 0 lt ∙ (omega arith)) ∙ h)

module _ (chip : Chip) (members : List ℕ) where
  -- an output pin of x is on the net of an input pin of w
  abbrev pub feeds : ℕ → ℕ → Bool
  feeds x w = list_any (λ output. list_any (eqb (output_net chip x output)) (read_nets chip w)) (range_with_len 0 (outputs_at chip x))

  feeds_from : (x w : ℕ) → x < count_of chip → w < count_of chip → feeds x w ≡ true → FeedsInstance chip x w
  feeds_from x w xl wl h =
      let o = some_below (λ output. list_any (eqb (output_net chip x output)) (read_nets chip w)) (outputs_at chip x) h in
      let g = given_from (net_of chip w) (inputs_at chip w) (output_net chip x o.number) o.holds in
      record { known = xl; fed_known = wl; output = o.number; output_within = o.below; pin = g.at; pin_within = g.within; on = sym g.is }

  feeds_at : (x w : ℕ) → FeedsInstance chip x w → feeds x w ≡ true
  feeds_at x w f =
      below_holds (λ output. list_any (eqb (output_net chip x output)) (read_nets chip w)) (outputs_at chip x) f.output f.output_within
      (ap (λ net. list_any (eqb net) (read_nets chip w)) f.on ∙ given_at (net_of chip w) (inputs_at chip w) f.pin f.pin_within)

  -- a chain of at most so many leads from a member to w
  unfoldable pub reached : ℕ → ℕ → Bool
  reached zero w = false
  reached (suc k) w = list_any (λ x. feeds x w && (is_member members x || reached k x)) (range_with_len 0 (count_of chip))

  record Feeder (k w : ℕ) : Type 0 where
    feeder : ℕ
    known : feeder < count_of chip
    feeds_it : feeds feeder w ≡ true
    begun : (is_member members feeder || reached k feeder) ≡ true

  feeder_of : (k w : ℕ) → reached (suc k) w ≡ true → Feeder k w
  unfolding reached
  feeder_of k w h =
      let s = some_below (λ x. feeds x w && (is_member members x || reached k x)) (count_of chip) h in
      let a = and_parts (feeds s.number w) (is_member members s.number || reached k s.number) s.holds in
      record { feeder = s.number; known = s.below; feeds_it = a.0; begun = a.1 }

  from_feeder : (k w x : ℕ) → x < count_of chip → feeds x w ≡ true → (is_member members x || reached k x) ≡ true → reached (suc k) w ≡ true
  unfolding reached
  from_feeder k w x lt f b =
      below_holds (λ x. feeds x w && (is_member members x || reached k x)) (count_of chip) x lt (and_from (feeds x w) (is_member members x || reached k x) f b)

  none_reached : (w : ℕ) → reached zero w ≡ true → ⊥
  unfolding reached
  none_reached w h = false≢true h

  more : (k w : ℕ) → reached k w ≡ true → reached (suc k) w ≡ true
  more zero w h = absurd (none_reached w h)
  more (suc k) w h =
      let f = feeder_of k w h in
      from_feeder (suc k) w f.feeder f.known f.feeds_it (elim (or_cases (is_member members f.feeder) (reached k f.feeder) f.begun) [
        | inl m ↦ or_left (is_member members f.feeder) (reached (suc k) f.feeder) m
        | inr r ↦ or_right (is_member members f.feeder) (reached (suc k) f.feeder) (more k f.feeder r)
      ])

  many_more : (j k w : ℕ) → reached k w ≡ true → reached (k + j) w ≡ true
  many_more zero k w h = subst (λ x. reached x w ≡ true) (let e : k ≡ k + 0 = omega arith in e) h
  many_more (suc j) k w h = subst (λ x. reached x w ≡ true) (let e : suc (k + j) ≡ k + suc j = omega arith in e) (more (k + j) w (many_more j k w h))

  -- a chain from a member to w
  record ChainTo (w : ℕ) : Type 0 where
    begin : ℕ
    listed : Contains members begin
    path : List ℕ
    chain : IsInstanceChain chip begin path w

  longer : (u : ℕ) (path : List ℕ) (x w : ℕ) → IsInstanceChain chip u path x → FeedsInstance chip x w → IsInstanceChain chip u (path ++ x ∷ []) w
  longer u [] x w h f = (h, f)
  longer u (next ∷ rest) x w h f = (h.0, longer next rest x w h.1 f)

  chain_to : (k w : ℕ) → w < count_of chip → reached k w ≡ true → ChainTo w
  chain_to zero w lt h = absurd (none_reached w h)
  chain_to (suc k) w lt h =
      let f = feeder_of k w h in
      let feed = feeds_from f.feeder w f.known lt f.feeds_it in
      elim (or_cases (is_member members f.feeder) (reached k f.feeder) f.begun) [
        | inl m ↦ record { begin = f.feeder; listed = listed_contains members f.feeder m; path = []; chain = feed }
        | inr r ↦
            let c = chain_to k f.feeder f.known r in
            record { begin = c.begin; listed = c.listed; path = c.path ++ f.feeder ∷ []; chain = longer c.begin c.path f.feeder w c.chain feed }
      ]

  module _ (rank : ℕ → ℕ) (is : IsChip chip rank) (are : AreMembers chip members) where
    rises : (x w : ℕ) → FeedsInstance chip x w → rank x < rank w
    rises x w f = is.ranked w f.pin f.fed_known f.pin_within (record { instance = x; output = f.output; known = f.known; within = f.output_within; on = f.on })

    enough : (k w : ℕ) → w < count_of chip → reached k w ≡ true → reached (suc (rank w)) w ≡ true
    enough zero w lt h = absurd (none_reached w h)
    enough (suc k) w lt h =
        let f = feeder_of k w h in
        let r = rises f.feeder w (feeds_from f.feeder w f.known lt f.feeds_it) in
        from_feeder (rank w) w f.feeder f.known f.feeds_it (elim (or_cases (is_member members f.feeder) (reached k f.feeder) f.begun) [
          | inl m ↦ or_left (is_member members f.feeder) (reached (rank w) f.feeder) m
          | inr q ↦ or_right (is_member members f.feeder) (reached (rank w) f.feeder)
              (subst (λ x. reached x f.feeder ≡ true) (let e : suc (rank f.feeder) + (rank w - suc (rank f.feeder)) ≡ rank w = omega arith in e)
              (many_more (rank w - suc (rank f.feeder)) (suc (rank f.feeder)) f.feeder (enough k f.feeder f.known q)))
        ])

    -- the instances that aren't members and to which a chain leads from a member
    abbrev pub after : ℕ → Bool
    after w = not (is_member members w) && reached (suc (rank w)) w

    not_member : (w : ℕ) → (Contains members w → ⊥) → not (is_member members w) ≡ true
    not_member w out = elim (cases_Bool (is_member members w)) [
      | inl e ↦ absurd (out (listed_contains members w e))
      | inr e ↦ not_from_false (is_member members w) e
    ]

    leaves : (u : ℕ) → after u ≡ true → Contains members u → ⊥
    leaves u h c =
        let a = and_parts (not (is_member members u)) (reached (suc (rank u)) u) h in
        both_ways (is_member members u) (not-true (is_member members u) a.0) (contains_listed members u c)

    begins : (u w : ℕ) → Contains members u → FeedsInstance chip u w → (Contains members w → ⊥) → after w ≡ true
    begins u w c f out =
        and_from (not (is_member members w)) (reached (suc (rank w)) w) (not_member w out)
        (enough 1 w f.fed_known (from_feeder 0 w u f.known (feeds_at u w f) (or_left (is_member members u) (reached 0 u) (contains_listed members u c))))

    goes_on : (u w : ℕ) → after u ≡ true → FeedsInstance chip u w → after w ≡ true
    goes_on u w h f =
        let a = and_parts (not (is_member members u)) (reached (suc (rank u)) u) h in
        let c = chain_to (suc (rank u)) u f.known a.1 in
        and_from (not (is_member members w)) (reached (suc (rank w)) w)
        (not_member w (λ m. leaves u h
        (are.closed c.begin w (c.path ++ u ∷ []) c.listed m (longer c.begin c.path u w c.chain f) u (Contains-push c.path u))))
        (enough (suc (suc (rank u))) w f.fed_known
        (from_feeder (suc (rank u)) w u f.known (feeds_at u w f) (or_right (is_member members u) (reached (suc (rank u)) u) a.1)))

    pub are_after : AreAfter chip members after
    are_after = record { begins = begins; goes_on = goes_on; leaves = leaves }
