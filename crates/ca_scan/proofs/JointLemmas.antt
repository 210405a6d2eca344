-- What is kept of the nets, as it is gathered, and what it says of a chip.
use Rattle.std.proofs.Common.{◌≡◌, ℕ, zero, suc, ◌+◌, ◌<◌, ◌≤◌, Bool, true, false, List, [], ◌∷◌, ◌++◌}
use Rattle.std.proofs.Common.{length, take, refl, sym, ap, ◌∙◌, subst, arith, append_assoc, length-append}
use Rattle.std.specs.Prelude.{eqb, map, Option, Some, None, IsSomeAnd, slice_get, slice_index, if◌then◌else◌}
use Rattle.std.specs.Prelude.{option_to_list}
use Rattle.std.specs.List.{All, flat_map}
use Rattle.std.proofs.lemmas.Bool.{eqb-true, eq-eqb}
use native.Mathlib.Decide.{ℕ_discrete}
use Rattle.std.proofs.lemmas.List.Elements.{All-head, All-tail}
use Rattle.std.proofs.lemmas.Option.{slice_get_within, slice_get-get_or, get_or_from_slice_get}
use Rattle.std.proofs.lemmas.Grind.{flat_map-append}
use Rattle.std.proofs.lemmas.List.{map-append}
use Rattle.ca_linked.specs.declared.pins.ScanPin.TheVariants.{Si, So, Se, Ck, Hold}
use Rattle.ca_linked.specs.declared.parts.Body.{Body}
use Rattle.ca_linked.specs.declared.parts.Body.TheVariants.{Gate, Scan}
use Rattle.ca_linked.specs.declared.parts.Part.{Part}
use Rattle.ca_linked.specs.declared.parts.PortBit.{PortBit}
use Rattle.ca_linked.specs.Linked.{LinkedChip, IsWired, is_scan_path, data_nets, path_nets}
use Rattle.ca_linked.specs.Instances.{HasOnPin, IsScan, if_scan, pin_nets, scans_from, scans_of}
use Rattle.ca_scan.specs.Chain.{count_of, ends_of, IsOnPin, IsScanAt}
use Rattle.ca_scan.specs.code.Kept.{nets_at, nets_of, out_nets, Counts, Adds, IsTakerAmong, AreTakersAmong}
use Rattle.ca_scan.specs.code.Kept.{taker_at, SetsTaker}
use Rattle.ca_scan.proofs.CountLemmas.{item_of, count-append}
use Rattle.ca_scan.proofs.ChainLemmas.{one_net}
use Rattle.ca_scan.proofs.TallyLemmas.{take_more}

-- the list with the instance at one place more
module _ {X : Type 0} (f : X → List ℕ) (xs : List X) (k : ℕ) (x : X) (at : slice_get xs k ≡ Some x) where
  pub flat_more : flat_map f (take (k + 1) xs) ≡ flat_map f (take k xs) ++ f x
  flat_more =
      ap (flat_map f) (take_more xs k x (slice_get_within xs k x at) ∙ ap (λ y. take k xs ++ y ∷ []) (get_or_from_slice_get xs k x x at))
      ∙ flat_map-append f (take k xs) (x ∷ []) ∙ ap (λ ys. flat_map f (take k xs) ++ ys) (last (f x))
    where
      last : (ys : List ℕ) → ys ++ [] ≡ ys
      last [] = refl
      last (y ∷ ys) = ap (λ zs. y ∷ zs) (last ys)

  pub counts_more : (old new : List ℕ) → Counts old (flat_map f (take k xs)) → Adds (f x) old new → Counts new (flat_map f (take (k + 1) xs))
  counts_more old new counts adds = subst (Counts new) (sym flat_more) (adds (flat_map f (take k xs)) counts)

-- one port bit more
pub port_more : (before : List ℕ) (ports : List PortBit) (p : ℕ) (port : PortBit) (old new : List ℕ) → slice_get ports p ≡ Some port
    → Counts old (before ++ map (λ (b : PortBit). b.net) (take p ports)) → Adds (port.net ∷ []) old new
    → Counts new (before ++ map (λ (b : PortBit). b.net) (take (p + 1) ports))
port_more before ports p port old new at counts adds =
    subst (Counts new) (append_assoc before (map (λ (b : PortBit). b.net) (take p ports)) (port.net ∷ []) ∙ ap (λ nets. before ++ nets) (sym more))
    (adds (before ++ map (λ (b : PortBit). b.net) (take p ports)) counts)
  where
    more : map (λ (b : PortBit). b.net) (take (p + 1) ports) ≡ map (λ (b : PortBit). b.net) (take p ports) ++ port.net ∷ []
    more =
        ap (map (λ (b : PortBit). b.net)) (take_more ports p port (slice_get_within ports p port at) ∙ ap (λ b. take p ports ++ b ∷ []) (get_or_from_slice_get ports p port port at))
        ∙ map-append (λ (b : PortBit). b.net) (take p ports) (port ∷ [])

pub net_more : (before : List ℕ) (ports : List PortBit) (p net : ℕ) (old new : List ℕ) → IsSomeAnd (slice_get ports p) (λ (port : PortBit). port.net ≡ net)
    → Counts old (before ++ map (λ (b : PortBit). b.net) (take p ports)) → Adds (net ∷ []) old new
    → Counts new (before ++ map (λ (b : PortBit). b.net) (take (p + 1) ports))
net_more before ports p net old new there counts adds =
    let found = item_of ports p (λ (port : PortBit). port.net ≡ net) there in
    port_more before ports p found.item old new found.at counts (subst (λ n. Adds (n ∷ []) old new) (sym found.has) adds)

-- one output port more
pub outs_more : (ports : List PortBit) (p : ℕ) (old new : List ℕ) → IsSomeAnd (slice_get ports p) (λ port. Adds (out_nets port) old new)
    → Counts old (flat_map out_nets (take p ports)) → Counts new (flat_map out_nets (take (p + 1) ports))
outs_more ports p old new there counts =
    let found = item_of ports p (λ (port : PortBit). Adds (out_nets port) old new) there in
    counts_more out_nets ports p found.item found.at old new counts found.has

-- one scan instance more
pub pins_more : (chip : LinkedChip) (k : ℕ) (old new : List ℕ) → k < length (scans_of chip)
    → Counts old (nets_of chip (take k (scans_of chip))) → Adds (nets_at (slice_get chip.parts (slice_index (scans_of chip) k))) old new
    → Counts new (nets_of chip (take (k + 1) (scans_of chip)))
pins_more chip k old new below counts adds =
    counts_more (λ u. nets_at (slice_get chip.parts u)) (scans_of chip) k (slice_index (scans_of chip) k)
    (slice_get-get_or (scans_of chip) k 0 below) old new counts adds

-- the five pins of a scan instance have the nets that it puts on the scan path
pub five_nets : (chip : LinkedChip) (u se ck hold si so : ℕ) → IsOnPin chip Se u se → IsOnPin chip Ck u ck → IsOnPin chip Hold u hold → IsOnPin chip Si u si → IsOnPin chip So u so
    → se ∷ ck ∷ hold ∷ si ∷ so ∷ [] ≡ nets_at (slice_get chip.parts u)
five_nets chip u se ck hold si so is_se is_ck is_hold is_si is_so = by (slice_get chip.parts u) is_se is_ck is_hold is_si is_so
  where
    of_body : (body : Body) → HasOnPin Se se body → HasOnPin Ck ck body → HasOnPin Hold hold body → HasOnPin Si si body → HasOnPin So so body
        → se ∷ ck ∷ hold ∷ si ∷ so ∷ [] ≡ path_nets body
    of_body (Gate cell inputs outputs) one two three four five = absurd one
    of_body (Scan nets) one two three four five = sym (λ j. one j ∷ two j ∷ three j ∷ four j ∷ five j ∷ [])

    by : (o : Option Part) → IsSomeAnd o (λ part. HasOnPin Se se part.body) → IsSomeAnd o (λ part. HasOnPin Ck ck part.body)
        → IsSomeAnd o (λ part. HasOnPin Hold hold part.body) → IsSomeAnd o (λ part. HasOnPin Si si part.body) → IsSomeAnd o (λ part. HasOnPin So so part.body)
        → se ∷ ck ∷ hold ∷ si ∷ so ∷ [] ≡ nets_at o
    by None one two three four five = absurd one
    by (Some part) one two three four five = of_body part.body one two three four five

-- what follows others
at_end : (before : List Part) (part : Part) (more : List Part) → slice_get (before ++ part ∷ more) (length before) ≡ Some part
at_end [] part more = refl
at_end (first ∷ before) part more = at_end before part more

one_longer : (before : List Part) (part : Part) → length (before ++ part ∷ []) ≡ length before + 1
one_longer before part = length-append before (part ∷ [])

-- the scan instances put on the path what all instances do
scans_path : (before rest : List Part) → flat_map (λ u. nets_at (slice_get (before ++ rest) u)) (scans_from (length before) rest) ≡ flat_map (λ part. path_nets part.body) rest
scans_path before [] = refl
scans_path before (part ∷ more) = by part.body refl
    ((λ j. flat_map (λ u. nets_at (slice_get (sym (append_assoc before (part ∷ []) more) j) u)) (scans_from (sym (one_longer before part) j) more))
    ∙ scans_path (before ++ part ∷ []) more)
  where
    by : (body : Body) → part.body ≡ body
        → flat_map (λ u. nets_at (slice_get (before ++ part ∷ more) u)) (scans_from (length before + 1) more) ≡ flat_map (λ (p : Part). path_nets p.body) more
        → flat_map (λ u. nets_at (slice_get (before ++ part ∷ more) u)) (if_scan (length before) body ++ scans_from (length before + 1) more)
        ≡ path_nets part.body ++ flat_map (λ (p : Part). path_nets p.body) more
    by (Gate cell inputs outputs) is later = later ∙ (λ j. path_nets (sym is j) ++ flat_map (λ (p : Part). path_nets p.body) more)
    by (Scan nets) is later = (λ j. ap nets_at (at_end before part more) j ++ later j)

pub path_of_scans : (chip : LinkedChip) → nets_of chip (scans_of chip) ≡ flat_map (λ part. path_nets part.body) chip.parts
path_of_scans chip = scans_path [] chip.parts

-- a net that passes the test is none of these
none_of : (test : ℕ → Bool) (net : ℕ) (xs : List ℕ) → All (λ n. test n ≡ false) xs → test net ≡ true → count_of net xs ≡ 0
unfolding count_of
none_of test net [] all is = refl
none_of test net (x ∷ xs) all is = by (eqb net x) refl (none_of test net xs (All-tail (λ n. test n ≡ false) x xs all) is)
  where
    by : (b : Bool) → eqb net x ≡ b → count_of net xs ≡ 0 → (if b then 1 else 0) + count_of net xs ≡ 0
    by true same none =
        let clash : true ≡ false = sym is ∙ ap test (eqb-true net x same) ∙ All-head (λ n. test n ≡ false) x xs all in
        absurd cc
    by false other none = omega (arith, none)

-- the pins of an instance are those of data and those of the path
body_split : (net : ℕ) (body : Body) → count_of net (pin_nets body) ≡ count_of net (data_nets body) + count_of net (path_nets body)
unfolding count_of
body_split net (Gate cell inputs outputs) = omega arith
body_split net (Scan nets) = let tail = count-append net (option_to_list nets.qn) (nets.so ∷ []) in omega (arith, tail)

-- on a net that passes the test, where no data pin's net does, there are no pins but those of the path
parts_path : (test : ℕ → Bool) (net : ℕ) (parts : List Part) → All (λ (part : Part). All (λ n. test n ≡ false) (data_nets part.body)) parts → test net ≡ true
    → count_of net (flat_map (λ part. pin_nets part.body) parts) ≡ count_of net (flat_map (λ part. path_nets part.body) parts)
parts_path test net [] all is = refl
parts_path test net (part ∷ parts) all is =
    let off : All (λ n. test n ≡ false) (data_nets part.body) = All-head (λ (p : Part). All (λ n. test n ≡ false) (data_nets p.body)) part parts all in
    let none = none_of test net (data_nets part.body) off is in
    let split = body_split net part.body in
    let more = parts_path test net parts (All-tail (λ (p : Part). All (λ n. test n ≡ false) (data_nets p.body)) part parts all) is in
    let pins = count-append net (pin_nets part.body) (flat_map (λ (p : Part). pin_nets p.body) parts) in
    let path = count-append net (path_nets part.body) (flat_map (λ (p : Part). path_nets p.body) parts) in
    omega (arith, none, split, more, pins, path)

-- the ends of a net of the scan path
pub path_ends : (chip : LinkedChip) (net : ℕ) → IsWired chip → is_scan_path chip net ≡ true
    → count_of net (nets_of chip (scans_of chip) ++ map (λ (port : PortBit). port.net) chip.ports) ≡ ends_of chip net
path_ends chip net wired on_path =
    let split = count-append net (nets_of chip (scans_of chip)) (map (λ (port : PortBit). port.net) chip.ports) in
    let scans = ap (count_of net) (path_of_scans chip) in
    let pins = parts_path (is_scan_path chip) net chip.parts wired.off_path on_path in
    omega (arith, split, scans, pins)

-- each of the scan instances is one
from_scans : (u : ℕ) (parts : List Part) (k v : ℕ) → slice_get (scans_from u parts) k ≡ Some v
    → (place : ℕ) × (v ≡ u + place) × IsSomeAnd (slice_get parts place) (λ part. IsScan part.body)
from_scans u [] k v at = absurd (let clash : None ≡ Some v = at in cc)
from_scans u (part ∷ more) k v at = by part.body refl k at (λ j there.
    let found = from_scans (u + 1) more j v there in
    (suc found.0, omega (arith, found.1), found.2))
  where
    by : (body : Body) → part.body ≡ body → (j : ℕ) → slice_get (if_scan u body ++ scans_from (u + 1) more) j ≡ Some v
        → ((j : ℕ) → slice_get (scans_from (u + 1) more) j ≡ Some v → (place : ℕ) × (v ≡ u + place) × IsSomeAnd (slice_get (part ∷ more) place) (λ p. IsScan p.body))
        → (place : ℕ) × (v ≡ u + place) × IsSomeAnd (slice_get (part ∷ more) place) (λ p. IsScan p.body)
    by (Gate cell inputs outputs) is j there later = later j there
    by (Scan nets) is zero there later =
        let same : u ≡ v = cc in
        (0, omega (arith, same), subst IsScan (sym is) tt)
    by (Scan nets) is (suc j) there later = later j there

pub scan_at : (chip : LinkedChip) (k u : ℕ) → slice_get (scans_of chip) k ≡ Some u → IsScanAt chip u
scan_at chip k u at =
    let found = from_scans 0 chip.parts k u at in
    let same : found.0 ≡ u = omega (arith, found.1) in
    subst (IsScanAt chip) same found.2

-- and each scan instance is among them
to_scans : (u : ℕ) (parts : List Part) (place : ℕ) → IsSomeAnd (slice_get parts place) (λ part. IsScan part.body)
    → (k : ℕ) × (slice_get (scans_from u parts) k ≡ Some (u + place))
to_scans u [] place there = absurd there
to_scans u (part ∷ more) zero there = by part.body there
  where
    by : (body : Body) → IsScan body → (k : ℕ) × (slice_get (if_scan u body ++ scans_from (u + 1) more) k ≡ Some (u + 0))
    by (Gate cell inputs outputs) is = absurd is
    by (Scan nets) is = (0, ap Some (let same : u ≡ u + 0 = omega arith in same))
to_scans u (part ∷ more) (suc place) there =
    let later = to_scans (u + 1) more place there in
    by part.body (later.0, later.1 ∙ ap Some (let same : u + 1 + place ≡ u + suc place = omega arith in same))
  where
    by : (body : Body) → (k : ℕ) × (slice_get (scans_from (u + 1) more) k ≡ Some (u + suc place))
        → (k : ℕ) × (slice_get (if_scan u body ++ scans_from (u + 1) more) k ≡ Some (u + suc place))
    by (Gate cell inputs outputs) found = found
    by (Scan nets) found = (suc found.0, found.1)

pub scan_place : (chip : LinkedChip) (u : ℕ) → IsScanAt chip u → (k : ℕ) × (slice_get (scans_of chip) k ≡ Some u)
scan_place chip u there =
    let found = to_scans 0 chip.parts u there in
    (found.0, found.1 ∙ ap Some (let same : 0 + u ≡ u = omega arith in same))

-- later ones have greater numbers
rising : (u : ℕ) (parts : List Part) (j k v w : ℕ) → slice_get (scans_from u parts) j ≡ Some v → slice_get (scans_from u parts) k ≡ Some w → v < w → j < k
rising u [] j k v w at_v at_w less = absurd (let clash : None ≡ Some v = at_v in cc)
rising u (part ∷ more) j k v w at_v at_w less = by part.body j k at_v at_w (λ i l. rising (u + 1) more i l v w)
  where
    by : (body : Body) (j k : ℕ) → slice_get (if_scan u body ++ scans_from (u + 1) more) j ≡ Some v → slice_get (if_scan u body ++ scans_from (u + 1) more) k ≡ Some w
        → ((i l : ℕ) → slice_get (scans_from (u + 1) more) i ≡ Some v → slice_get (scans_from (u + 1) more) l ≡ Some w → v < w → i < l) → j < k
    by (Gate cell inputs outputs) j k at_v at_w later = later j k at_v at_w less
    by (Scan nets) zero zero at_v at_w later =
        let one : u ≡ v = cc in
        let two : u ≡ w = cc in
        absurd (omega (arith, one, two, less))
    by (Scan nets) zero (suc k) at_v at_w later = omega arith
    by (Scan nets) (suc j) zero at_v at_w later =
        let two : u ≡ w = cc in
        let found = from_scans (u + 1) more j v at_v in
        absurd (omega (arith, two, found.1, less))
    by (Scan nets) (suc j) (suc k) at_v at_w later = let more_less = later j k at_v at_w less in omega (arith, more_less)

pub scans_rise : (chip : LinkedChip) (j k v w : ℕ) → slice_get (scans_of chip) j ≡ Some v → slice_get (scans_of chip) k ≡ Some w → v < w → j < k
scans_rise chip j k v w at_v at_w less = rising 0 chip.parts j k v w at_v at_w less

-- one taker more
pub taker_more : (chip : LinkedChip) (k u net : ℕ) (old new : List (Option ℕ)) → slice_get (scans_of chip) k ≡ Some u → IsOnPin chip Si u net
    → AreTakersAmong chip k old → SetsTaker net u old new → AreTakersAmong chip (k + 1) new
taker_more chip k u net old new at there before set n = by (eqb n net) refl (taker_at old n) refl (before n)
  where
    by : (test : Bool) → eqb n net ≡ test → (was : Option ℕ) → taker_at old n ≡ was → IsTakerAmong chip k n was → IsTakerAmong chip (k + 1) n (taker_at new n)
    by true is was reported taker =
        subst (IsTakerAmong chip (k + 1) n) (sym (set n ∙ (λ j. if is j then Some u else taker_at old n))) (subst (IsOnPin chip Si u) (sym (eqb-true n net is)) there)
    by false is (Some v) reported taker =
        subst (IsTakerAmong chip (k + 1) n) (sym (set n ∙ (λ j. if is j then Some u else taker_at old n) ∙ reported)) taker
    by false is None reported taker =
        subst (IsTakerAmong chip (k + 1) n) (sym (set n ∙ (λ j. if is j then Some u else taker_at old n) ∙ reported)) none
      where
        none : (j v : ℕ) → j < k + 1 → slice_get (scans_of chip) j ≡ Some v → IsOnPin chip Si v n → ⊥
        none j v less at_v takes = elim (ℕ_discrete j k) [
          | yes same ↦
              let one : Some v ≡ Some u = sym at_v ∙ ap (slice_get (scans_of chip)) same ∙ at in
              let is_u : v ≡ u = cc in
              let net_same = one_net chip Si v n net takes (subst (λ w. IsOnPin chip Si w net) (sym is_u) there) in
              let clash : true ≡ false = sym (eq-eqb n net net_same) ∙ is in
              cc
          | no other ↦ taker j v (omega (arith, less, other)) at_v takes
        ]

pub takers_none : (chip : LinkedChip) → AreTakersAmong chip 0 []
takers_none chip net = λ k u below at takes. omega (arith, below)

pub takers_all : (chip : LinkedChip) (count : ℕ) (takers : List (Option ℕ)) → length (scans_of chip) ≤ count → AreTakersAmong chip count takers
    → AreTakersAmong chip (length (scans_of chip)) takers
takers_all chip count takers all are net = by (taker_at takers net) (are net)
  where
    by : (taker : Option ℕ) → IsTakerAmong chip count net taker → IsTakerAmong chip (length (scans_of chip)) net taker
    by (Some u) is = is
    by None none = λ k u below at takes. none k u (omega (arith, below, all)) at takes
