-- The shorts among the first targets, and one target more.
use Rattle.std.proofs.Common.{◌≤◌, ◌≡◌, ℕ, ◌+◌, ◌∙◌, List, [], ◌∷◌, ◌++◌, length, length-append, refl, sym, ap, subst, arith, Some, inl, inr, ◌⊎◌, zero, suc, ◌<◌}
use Rattle.std.specs.Prelude.{slice_get}
use Rattle.std.specs.List.{All}
use Rattle.std.proofs.Math.Decide.{dec_lt}
use Rattle.std.proofs.lemmas.Option.{slice_get_within, slice_get-get_or}
use Rattle.ca_credit.specs.Listed.{IsAscending}
use Rattle.ca_generate.proofs.ListLemmas.{entry_stays, entry_new, entry_is}
use Rattle.ca_targets.specs.declared.target.Target.{Target}
use Rattle.ca_targets.specs.declared.target.Target.TheVariants as kind
use Rattle.ca_targets.specs.declared.target.Cluster.{Cluster}
use Rattle.ca_benches.specs.declared.station.Station.{Station}
use Rattle.ca_bridges.specs.declared.numbers.Numbered.{Numbered}
use Rattle.ca_bridges.specs.Numbers.{IsShort, AreNumbers, IsStationOf, IsStationFor, AreNumbered, AreAimsUpTo}
use Rattle.ca_bridge_verdicts.proofs.BridgeLemmas.{some_at}
use Rattle.ca_bridges.proofs.TargetLemmas.{one_entry}

-- what holds of each entry holds of all
pub all_entries : {A : Type 0} (P : A → Type 0) (xs : List A) → ((k : ℕ) (x : A) → slice_get xs k ≡ Some x → P x) → All P xs
all_entries P xs each = λ k d lt. each k _ (slice_get-get_or xs k d lt)

pub numbered_none : (targets : List Target) (clusters : List Cluster) (none : Numbered) → none.numbers ≡ [] → none.stations ≡ []
    → AreNumbered targets clusters 0 none
numbered_none targets clusters none no_numbers no_stations = record {
  numbers = record {
    ascending = λ k l low high before low_at high_at. absurd (no_number k low low_at);
    below = λ k place at. absurd (no_number k place at);
    shorts = λ k place at. absurd (no_number k place at);
    all = λ place lt short. absurd (omega (arith, lt));
  };
  one_each = ap length no_stations ∙ sym (ap length no_numbers);
  stations = λ k station at. absurd (no_station k station at);
  for = λ k place station target at number here. absurd (no_station k station at);
}
  where
    no_number : (k place : ℕ) → slice_get none.numbers k ≡ Some place → ⊥
    no_number k place at =
        let within = slice_get_within none.numbers k place at in
        let long = ap length no_numbers in
        omega (arith, within, long)

    no_station : (k : ℕ) (station : Station) → slice_get none.stations k ≡ Some station → ⊥
    no_station k station at =
        let within = slice_get_within none.stations k station at in
        let long = ap length no_stations in
        omega (arith, within, long)

module _ (targets : List Target) (clusters : List Cluster) (count : ℕ) (old : Numbered) (are : AreNumbered targets clusters count old) where
  -- the next target is no short
  pub numbered_skip : (target : Target) → slice_get targets count ≡ Some target → (IsShort target → ⊥)
      → AreNumbered targets clusters (count + 1) old
  numbered_skip target here none = record {
    numbers = record {
      ascending = are.numbers.ascending;
      below = λ k place at. let below = are.numbers.below k place at in omega (arith, below);
      shorts = are.numbers.shorts;
      all = λ place lt short. elim (dec_lt place count) [
        | yes less ↦ are.numbers.all place less short
        | no not ↦
            let same : place ≡ count = omega (arith, lt, not) in
            let e : short.target ≡ target = one_entry targets count short.target target (subst (λ (n : ℕ). slice_get targets n ≡ Some short.target) same short.at) here in
            absurd (none (subst IsShort e short.short))
      ];
    };
    one_each = are.one_each;
    stations = are.stations;
    for = are.for;
  }

  -- it is one
  pub numbered_more : (station : Station) (new : Numbered) → slice_get targets count ≡ Some (kind.Short station.part station.place)
      → IsStationOf clusters station → new.numbers ≡ old.numbers ++ count ∷ [] → new.stations ≡ old.stations ++ station ∷ []
      → AreNumbered targets clusters (count + 1) new
  numbered_more station new here sits numbers_are stations_are = record {
    numbers = subst (λ (ns : List ℕ). AreNumbers targets (count + 1) ns) (sym numbers_are) (record {
      ascending = ascending;
      below = λ k place at. elim (entry_is old.numbers count k place at) [
        | inl before ↦ let below = are.numbers.below k place before in omega (arith, below)
        | inr last ↦ let e = last.1 in omega (arith, e)
      ];
      shorts = λ k place at. elim (entry_is old.numbers count k place at) [
        | inl before ↦ are.numbers.shorts k place before
        | inr last ↦ record {
          target = kind.Short station.part station.place;
          at = subst (λ (n : ℕ). slice_get targets n ≡ Some (kind.Short station.part station.place)) (sym last.1) here;
          short = tt;
        }
      ];
      all = λ place lt short. elim (dec_lt place count) [
        | yes less ↦ let k = are.numbers.all place less short in record { k = k.k; at = entry_stays old.numbers (count ∷ []) k.k place k.at }
        | no not ↦
            let same : count ≡ place = omega (arith, lt, not) in
            record { k = length old.numbers; at = entry_new old.numbers count ∙ ap (λ (n : ℕ). Some n) same }
      ];
    });
    one_each =
        let stations_long = ap length stations_are ∙ length-append old.stations (station ∷ []) in
        let numbers_long = ap length numbers_are ∙ length-append old.numbers (count ∷ []) in
        let one_each = are.one_each in
        omega (arith, stations_long, numbers_long, one_each);
    stations = λ k other at. elim (entry_is old.stations station k other (subst (λ (ss : List Station). slice_get ss k ≡ Some other) stations_are at)) [
      | inl before ↦ are.stations k other before
      | inr last ↦ subst (λ (s : Station). IsStationOf clusters s) (sym last.1) sits
    ];
    for = λ k place other found at number is.
        let station_at = subst (λ (ss : List Station). slice_get ss k ≡ Some other) stations_are at in
        let number_at = subst (λ (ns : List ℕ). slice_get ns k ≡ Some place) numbers_are number in
        for_each k place other found (entry_is old.stations station k other station_at) (entry_is old.numbers count k place number_at) is;
  }
    where
      ascending : IsAscending (old.numbers ++ count ∷ [])
      ascending k l low high before low_at high_at =
          elim (entry_is old.numbers count k low low_at) [
            | inl low_old ↦ elim (entry_is old.numbers count l high high_at) [
              | inl high_old ↦ are.numbers.ascending k l low high before low_old high_old
              | inr high_new ↦ let below = are.numbers.below k low low_old in let e = high_new.1 in omega (arith, below, e)
            ]
            | inr low_new ↦
                let within = slice_get_within (old.numbers ++ count ∷ []) l high high_at in
                let long = length-append old.numbers (count ∷ []) in
                let at = low_new.0 in
                absurd (omega (arith, within, long, at, before))
          ]

      for_each : (k place : ℕ) (other : Station) (found : Target)
          → (slice_get old.stations k ≡ Some other) ⊎ ((k ≡ length old.stations) × (other ≡ station))
          → (slice_get old.numbers k ≡ Some place) ⊎ ((k ≡ length old.numbers) × (place ≡ count))
          → slice_get targets place ≡ Some found → IsStationFor found other
      for_each k place other found (inl station_old) (inl number_old) is = are.for k place other found station_old number_old is
      for_each k place other found (inr station_new) (inr number_new) is =
          let e : found ≡ kind.Short station.part station.place =
          one_entry targets count found (kind.Short station.part station.place) (subst (λ (n : ℕ). slice_get targets n ≡ Some found) number_new.1 is) here in
          subst (λ (s : Station). found ≡ kind.Short s.part s.place) (sym station_new.1) e
      for_each k place other found (inl station_old) (inr number_new) is =
          let within = slice_get_within old.stations k other station_old in
          let at = number_new.0 in
          let one_each = are.one_each in
          absurd (omega (arith, within, at, one_each))
      for_each k place other found (inr station_new) (inl number_old) is =
          let within = slice_get_within old.numbers k place number_old in
          let at = station_new.0 in
          let one_each = are.one_each in
          absurd (omega (arith, within, at, one_each))

-- the places of the first aims, and one more
pub aims_none : (numbers aims : List ℕ) → AreAimsUpTo numbers aims 0 []
aims_none numbers aims = record { counted = refl; each = λ number aim lt at. absurd (omega (arith, lt)) }

pub aims_more : (numbers aims places : List ℕ) (count aim place : ℕ) → AreAimsUpTo numbers aims count places
    → slice_get aims count ≡ Some aim → slice_get numbers aim ≡ Some place → AreAimsUpTo numbers aims (count + 1) (places ++ place ∷ [])
aims_more numbers aims places count aim place are here is = record {
  counted = let grown = length-append places (place ∷ []) in let counted = are.counted in omega (arith, grown, counted);
  each = λ number other lt at. elim (dec_lt number count) [
    | yes less ↦
        let known = are.each number other less at in
        let within = are.counted in
        let there = some_at places number (omega (arith, within, less)) in
        entry_stays places (place ∷ []) number there.0 there.1 ∙ sym there.1 ∙ known
    | no not ↦
        let same : number ≡ count = omega (arith, lt, not) in
        let e : other ≡ aim = one_entry aims count other aim (subst (λ (n : ℕ). slice_get aims n ≡ Some other) same at) here in
        let long : length places ≡ number = are.counted ∙ sym same in
        subst (λ (n : ℕ). slice_get (places ++ place ∷ []) n ≡ slice_get numbers other) long
        (entry_new places place ∙ sym is ∙ ap (λ (n : ℕ). slice_get numbers n) (sym e))
  ];
}

-- the k-th of numbers that ascend is at least k
at_least : (numbers : List ℕ) → IsAscending numbers → (k n : ℕ) → slice_get numbers k ≡ Some n → k ≤ n
at_least numbers ascending zero n at = omega arith
at_least numbers ascending (suc k) n at =
    let within = slice_get_within numbers (suc k) n at in
    let m = some_at numbers k (omega (arith, within)) in
    let below = ascending k (suc k) m.0 n (omega arith) m.1 at in
    let low = at_least numbers ascending k m.0 m.1 in
    omega (arith, below, low)

-- so there are no more of them than targets
pub few_numbers : (targets : List Target) (count : ℕ) (numbers : List ℕ) → AreNumbers targets count numbers → length numbers ≤ count
few_numbers targets count numbers are = elim (dec_lt count (length numbers)) [
  | yes more ↦
      let last = some_at numbers count more in
      let low = at_least numbers are.ascending count last.0 last.1 in
      let below = are.below count last.0 last.1 in
      absurd (omega (arith, low, below))
  | no not ↦ omega (arith, not)
]
