-- The numbered nets are those of the wiring.
use Rattle.std.proofs.Common.{◌≡◌, ℕ, ◌<◌, ◌≤◌, List, length, refl, sym, ◌∙◌, subst, arith, get_or}
use Rattle.ca_wiring.specs.declared.joined.Join.{Join}
use Rattle.ca_wiring.specs.Joined.{Same, IsEarliest, AreEarliest}
use Rattle.ca_wiring.specs.Wiring.{Wiring}
use Rattle.ca_wiring.specs.Nets.{AreNets, IsNetOf}
use Rattle.ca_wiring.specs.Numbers.{WireMarks, NetNumbers, earliest_of, IsUsed, LeadsToEarliest, AreNumbered}
use Rattle.ca_wiring.specs.code.Numbers.{ReportsUsed}
use Rattle.ca_linked.proofs.OrderLemmas.{place_of}
use Rattle.ca_wiring.proofs.ForestLemmas.{joined_trans}

module _ (joins : List Join) (wires : ℕ) (marks : WireMarks) (are : AreEarliest joins wires marks.earliest) where
  earliest_within : (w : ℕ) → w < wires → earliest_of marks w ≤ w
  earliest_within w lt = (are.each w lt).none_before w (Same refl)

  pub leads : length marks.used ≡ wires → LeadsToEarliest marks
  leads used = record {
    count = used ∙ sym are.count;
    no_later = λ w lt. earliest_within w (subst (λ n. w < n) are.count lt);
    own = λ w lt.
        let here : w < wires = subst (λ n. w < n) are.count lt in
        let le = earliest_within w here in
        let first_lt : earliest_of marks w < wires = omega arith in
        let first = are.each (earliest_of marks w) first_lt in
        let back = (are.each w here).none_before (earliest_of marks (earliest_of marks w))
        (joined_trans joins w (earliest_of marks w) (earliest_of marks (earliest_of marks w)) (are.each w here).joined first.joined) in
        let no_later = earliest_within (earliest_of marks w) first_lt in
        omega arith;
  }

  -- a wire that is the earliest of those that are joined with it is its own
  own_earliest : (w : ℕ) → w < wires → IsEarliest joins w w → earliest_of marks w ≡ w
  own_earliest w lt is = let le = earliest_within w lt in let ge = is.none_before (earliest_of marks w) (are.each w lt).joined in omega arith

module _ (wiring : Wiring) (wires : ℕ) (marks : WireMarks) (made : NetNumbers) (are : AreEarliest wiring.joins wires marks.earliest)
    (reports : ReportsUsed wiring wires marks) (numbered : AreNumbered marks wires made) where
  -- the list of nets is that of the wiring
  pub nets_are : AreNets wiring made.nets
  nets_are = record {
    ascending = numbered.ascending;
    has = λ w. (
      λ contains.
          let known = numbered.known contains.0 w (place_of made.nets w contains) in
          record {
            earliest = subst (IsEarliest wiring.joins w) known.1.own (are.each w known.0);
            used = (reports.used w known.0 known.1.own).0 known.1.used;
          },
      λ is.
          let lt = reports.within w is in
          let own = own_earliest wiring.joins wires marks are w lt is.earliest in
          numbered.has w lt (record { own = own; used = (reports.used w lt own).1 is.used }),
    );
  }

  -- and each wire's number is that of its net
  pub net_is : (w : ℕ) → w < wires → IsUsed marks (earliest_of marks w) → IsNetOf wiring made.nets w (get_or made.numbers w 0)
  net_is w lt used = record { earliest = earliest_of marks w; is_earliest = are.each w lt; at = numbered.numbered w lt used }
