-- A node that may be marked next: a root or the far end of a device, where its definite path has strength k
-- or more.
use Rattle.std.proofs.Common.{◌≡◌, ℕ, ◌+◌, ◌<◌, ◌≤◌, ◌⊎◌, List, Bool, false, length, inl, inr, refl, sym, ◌∙◌}
use Rattle.std.proofs.Common.{ap, subst, arith, get_or, slice_get}
use Rattle.std.specs.Prelude.{Some, None}
use Rattle.std.specs.List.{Contains}
use Rattle.std.proofs.Math.Decide.{dec_le}
use Rattle.std.proofs.lemmas.Option.{slice_get_cases, slice_get-get_or}
use Rattle.ca_net.specs.declared.trit.Trit.{Trit}
use Rattle.ca_net.specs.declared.device.Device.{Device}
use Rattle.ca_net.specs.Circuit.{Circuit, kind_at}
use Rattle.ca_net.specs.State.{value_at}
use Rattle.ca_net.specs.Conduction.{Conducts, Links}
use Rattle.ca_net.specs.Path.{Path, Root, Via, end_of, IsPath, IsDefinite, strength_of, root_strength}
use Rattle.ca_net.specs.Response.{HasStronger}
use Rattle.ca_net.proofs.Choices.{IsMarked, true_or_false, conducts_or_not, some_or_all}
use Rattle.ca_net.proofs.Levels.{HasMarkedPath, IsLevel, Extends}
use Rattle.ca_net.proofs.Hops.{unmarked_at, same_device}

module _ (net : Circuit) (s : List Trit) (k : ℕ) (on : List Bool) (level : IsLevel net s k on) where
  -- a path of strength k to a node that is not marked is not blocked at its end
  not_outdone : (n l : ℕ) → get_or on n false ≡ false → k ≤ l → HasStronger net s n l → ⊥
  not_outdone n l off le b =
      let lt : l < strength_of net b.path = b.stronger in
      let m : IsMarked on n = level.stronger n (record { path = b.path; is_path = b.is_path; ends = b.ends; definite = b.definite; stronger = omega arith }) in cc

  -- a node within the network that is not marked
  unmarked_node : (n : ℕ) → n < length net.nodes → get_or on n false ≡ false → slice_get on n ≡ Some false
  unmarked_node n lt off = unmarked_at on n (subst (λ x. n < x) (sym level.room) lt) off

  -- a root that may be marked
  root_extends : (r : ℕ) → Extends net s k on ⊎ (r < length net.nodes → k ≤ root_strength (kind_at net r) → IsMarked on r)
  root_extends r = elim (true_or_false (get_or on r false)) [
    | inl m ↦ inr (λ lt le. m)
    | inr off ↦ elim (dec_le (r + 1) (length net.nodes)) [
      | no ge ↦ inr (λ lt. absurd (omega arith))
      | yes lt ↦ elim (dec_le k (root_strength (kind_at net r))) [
        | no weak ↦ inr (λ within le. absurd (weak le))
        | yes le ↦ inl (record {
          node = r;
          unmarked = unmarked_node r (omega arith) off;
          free = record { path = Root r; is_path = omega arith; ends = refl; definite = tt; unblocked = not_outdone r _ off le };
          strength = le;
          within = λ m e. inl e;
        })
      ]
    ]
  ]

  -- no node is left to which this device leads
  abbrev IsDone : Device → ℕ → ℕ → Type 0
  IsDone d m n = IsMarked on m → n < length net.nodes → Conducts s d → k ≤ d.strength → IsMarked on n

  -- the path to m goes on by the device to n
  extended : (d : Device) (m n : ℕ) → Contains net.devices d → Links d m n → HasMarkedPath net s k on m → n < length net.nodes
      → get_or on n false ≡ false → Conducts s d → k ≤ d.strength → Extends net s k on
  extended d m n there links h lt off c le =
      let far : k ≤ strength_of net h.free.path = h.strength in
      record {
        node = n;
        unmarked = unmarked_node n lt off;
        free = record {
          path = Via h.free.path d n;
          is_path = (h.free.is_path, there, subst (λ x. Links d x n) (sym h.free.ends) links, lt, λ o. let e : IsMarked on n = h.within n o in cc);
          ends = refl;
          definite = (h.free.definite, c);
          unblocked = λ b. elim b [ inl u ↦ h.free.unblocked u | inr u ↦ not_outdone n _ off (omega arith) u ];
        };
        strength = omega arith;
        within = λ x o. elim o [ inl e ↦ inl e | inr e ↦ inr (h.within x e) ];
      }

  -- a node that may be marked, from m by the device
  hop_extends : (d : Device) (m n : ℕ) → Contains net.devices d → Links d m n → Extends net s k on ⊎ IsDone d m n
  hop_extends d m n there links = elim (true_or_false (get_or on n false)) [
    | inl e ↦ inr (λ at lt c le. e)
    | inr off ↦ elim (true_or_false (get_or on m false)) [
      | inr no_path ↦ inr (λ at lt c le. cc)
      | inl at ↦ elim (dec_le (n + 1) (length net.nodes)) [
        | no ge ↦ inr (λ at lt. absurd (omega arith))
        | yes lt ↦ elim (conducts_or_not d.kind (value_at s d.gate.0)) [
          | inr open_now ↦ inr (λ at lt c. absurd (open_now c))
          | inl c ↦ elim (dec_le k d.strength) [
            | no weak ↦ inr (λ at lt c le. absurd (weak le))
            | yes le ↦ inl (extended d m n there links (level.paths m at) (omega arith) off c le)
          ]
        ]
      ]
    ]
  ]

  -- a node that may be marked, by the device at i
  device_extends : (i : ℕ) → Extends net s k on ⊎ ((d : Device) (m n : ℕ) → slice_get net.devices i ≡ Some d → Links d m n → IsDone d m n)
  device_extends i = elim (slice_get_cases net.devices i).1 [
    | inr past ↦ inr (λ d m n there. let none : slice_get net.devices i ≡ None = past.1 in absurd cc)
    | inl h ↦ elim (hop_extends h.0 h.0.a.0 h.0.b.0 (i, h.1, h.3) (inl (refl, refl))) [
      | inl e ↦ inl e
      | inr onward ↦ elim (hop_extends h.0 h.0.b.0 h.0.a.0 (i, h.1, h.3) (inr (refl, refl))) [
        | inl e ↦ inl e
        | inr back ↦ inr (λ d m n there links.
            subst (λ x. Links x m n → IsDone x m n) (same_device net i d h.0 there h.2)
            (λ l. elim l [
              | inl ab ↦ subst (λ x. IsDone h.0 x n) ab.0 (subst (IsDone h.0 h.0.a.0) ab.1 onward)
              | inr ba ↦ subst (λ x. IsDone h.0 x n) ba.0 (subst (IsDone h.0 h.0.b.0) ba.1 back)
            ])
            links)
      ]
    ]
  ]

  -- where nothing may be marked, each path of strength k or more ends at a marked node
  all_ends : ((r : ℕ) → r < length net.nodes → r < length net.nodes → k ≤ root_strength (kind_at net r) → IsMarked on r)
      → ((i : ℕ) → i < length net.devices → (d : Device) (m n : ℕ) → slice_get net.devices i ≡ Some d → Links d m n → IsDone d m n)
      → (p : Path) → IsPath net p → IsDefinite s p → k ≤ strength_of net p → IsMarked on (end_of p)
  all_ends roots devices (Root r) is_path definite le = roots r is_path is_path le
  all_ends roots devices (Via p d n) is_path definite le =
      devices is_path.1.0 is_path.1.1 d (end_of p) n (slice_get-get_or net.devices is_path.1.0 d is_path.1.1 ∙ ap Some is_path.1.2) is_path.2
      (all_ends roots devices p is_path.0 definite.0 (omega arith)) is_path.3 definite.1 (omega arith)

  -- a node that may be marked, or all are that have a definite path of strength k or more
  pub extends_or_full : Extends net s k on ⊎ ((p : Path) → IsPath net p → IsDefinite s p → k ≤ strength_of net p → IsMarked on (end_of p))
  extends_or_full = elim (some_or_all _ root_extends (length net.nodes)) [
    | inl e ↦ inl e
    | inr roots ↦ elim (some_or_all _ device_extends (length net.devices)) [
      | inl e ↦ inl e
      | inr devices ↦ inr (all_ends roots devices)
    ]
  ]
