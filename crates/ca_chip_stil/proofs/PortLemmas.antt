-- The first port on each net, from the last port bit to the first.
use Rattle.std.proofs.Common.{◌≡◌, ℕ, zero, suc, ◌+◌, ◌<◌, ◌≤◌, Bool, true, false, ◌&&◌, List, length, drop}
use Rattle.std.proofs.Common.{replicate, refl, sym, ap, ◌∙◌, subst}
use Rattle.std.specs.Prelude.{eqb, Option, Some, None, IsSomeAnd, IfSome, slice_get, if◌then◌else◌}
use Rattle.std.proofs.Math.ListN.{set, length-set}
use Rattle.std.proofs.lemmas.Option.{slice_get_within}
use Rattle.std.proofs.lemmas.Bool.{ne_eqb, eq-eqb}
use native.Mathlib.Decide.{ℕ_discrete}
use Rattle.std.proofs.lemmas.List.{drop_all, length-replicate, get_or-set_same, get_or-set_other}
use Rattle.ca_linked.specs.declared.parts.PortBit.{PortBit}
use Rattle.ca_linked.specs.Linked.{LinkedChip, net_count}
use Rattle.ca_linked.specs.Paths.{is_port_on}
use Rattle.ca_linked.proofs.EndLemmas.{drop_at}
use Rattle.ca_chip_stil.specs.Sites.{is_directed}
use Rattle.ca_chip_stil.specs.ChipStil.{port_on}
use Rattle.ca_chip_stil.specs.code.Kept.{port_at, entry_of, AreFirstPorts, SetsPort}

entry_none : (count net : ℕ) → entry_of (replicate count None) net ≡ None
entry_none zero net = refl
entry_none (suc count) zero = refl
entry_none (suc count) (suc net) = entry_none count net

-- no port bit is found yet
pub ports_none : (chip : LinkedChip) (input : Bool) (p : ℕ) → length chip.ports ≤ p → (table : List (Option ℕ))
    → table ≡ replicate (net_count chip) None → AreFirstPorts chip input p table
unfolding port_on
ports_none chip input p past table is = record {
  room = ap length is ∙ length-replicate (net_count chip) None;
  known = λ net. subst (λ entry. IfSome entry (λ port. port < length chip.ports)) (sym (none_at net)) tt;
  each = λ net. ap (port_at chip.ports) (none_at net) ∙ sym (ap (port_on input net) (drop_all p chip.ports past));
}
  where
    none_at : (net : ℕ) → entry_of table net ≡ None
    none_at net = ap (λ (given : List (Option ℕ)). entry_of given net) is ∙ entry_none (net_count chip) net

-- one port bit more
pub ports_more : (chip : LinkedChip) (input : Bool) (p : ℕ) (old new : List (Option ℕ)) → SetsPort chip input p old new
    → AreFirstPorts chip input (p + 1) old → AreFirstPorts chip input p new
unfolding port_on
ports_more chip input p old new sets are = record {
  room = sets.room ∙ are.room;
  known = λ net.
      subst (λ entry. IfSome entry (λ port. port < length chip.ports)) (sym (sets.each net))
      (one net (is_port_on input net sets.port) (are.known net));
  each = λ net.
      ap (port_at chip.ports) (sets.each net)
      ∙ by net (is_port_on input net sets.port) (are.each net)
      ∙ sym (ap (port_on input net) (drop_at chip.ports p sets.port sets.at));
}
  where
    by : (net : ℕ) (test : Bool) → port_at chip.ports (entry_of old net) ≡ port_on input net (drop (p + 1) chip.ports)
        → port_at chip.ports (if test then Some p else entry_of old net)
        ≡ (if test then Some sets.port else port_on input net (drop (p + 1) chip.ports))
    by net true later = sets.at
    by net false later = later

    one : (net : ℕ) (test : Bool) → IfSome (entry_of old net) (λ port. port < length chip.ports)
        → IfSome (if test then Some p else entry_of old net) (λ port. port < length chip.ports)
    one net true known = slice_get_within chip.ports p sets.port sets.at
    one net false known = known

-- a port bit of this direction is set on its net
pub port_set : (chip : LinkedChip) (input : Bool) (p net : ℕ) (answer : Bool) (old : List (Option ℕ))
    → IsSomeAnd (slice_get chip.ports p) (λ port. port.net ≡ net)
    → IsSomeAnd (slice_get chip.ports p) (λ port. is_directed input port ≡ answer) → answer ≡ true → net < length old
    → SetsPort chip input p old (set old net (Some p))
port_set chip input p net answer old on directed is within = by (slice_get chip.ports p) refl on directed
  where
    by : (o : Option PortBit) → slice_get chip.ports p ≡ o → IsSomeAnd o (λ port. port.net ≡ net)
        → IsSomeAnd o (λ port. is_directed input port ≡ answer) → SetsPort chip input p old (set old net (Some p))
    by None at there here = absurd there
    by (Some port) at there here = record {
      port = port;
      at = at;
      room = length-set old net (Some p);
      each = λ n. elim (ℕ_discrete n net) [
        | yes same ↦
            ap (entry_of (set old net (Some p))) same ∙ get_or-set_same old net (Some p) None within
            ∙ (λ j. if sym (tested n) j && sym (eq-eqb n port.net (same ∙ sym there)) j then Some p else entry_of old n)
        | no other ↦
            get_or-set_other old net n (Some p) None other
            ∙ (λ j. if sym (tested n) j && sym (ne_eqb n port.net (λ same. other (same ∙ there))) j then Some p else entry_of old n)
      ];
    }
      where
        tested : ℕ → is_directed input port ≡ true
        tested n = here ∙ is

-- a port bit of the other direction isn't
pub port_kept : (chip : LinkedChip) (input : Bool) (p : ℕ) (answer : Bool) (old : List (Option ℕ))
    → IsSomeAnd (slice_get chip.ports p) (λ port. is_directed input port ≡ answer) → answer ≡ false
    → SetsPort chip input p old old
port_kept chip input p answer old directed is = by (slice_get chip.ports p) refl directed
  where
    by : (o : Option PortBit) → slice_get chip.ports p ≡ o → IsSomeAnd o (λ port. is_directed input port ≡ answer)
        → SetsPort chip input p old old
    by None at here = absurd here
    by (Some port) at here = record {
      port = port;
      at = at;
      room = refl;
      each = λ n. (λ j. if sym (here ∙ is) j && eqb n port.net then Some p else entry_of old n);
    }
