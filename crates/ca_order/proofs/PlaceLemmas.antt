-- The places of nodes, one node after another.
use Rattle.std.proofs.Common.{◌≡◌, ℕ, zero, suc, refl, ◌+◌, ◌<◌, ◌≤◌, List, [], ◌∷◌, ◌++◌, ◌∙◌, length, ap}
use Rattle.std.proofs.Common.{sym, subst, arith, Some, None, Option, get_or, length-append}
use Rattle.std.specs.Prelude.{◌↔◌, slice_get}
use Rattle.std.proofs.Math.Decide.{dec_le}
use native.Mathlib.Decide.{ℕ_discrete}
use Rattle.std.proofs.Math.Seq.{get_or-append_seam}
use Rattle.std.proofs.lemmas.List.{get_or_append_left}
use Rattle.std.proofs.lemmas.Option.{get_or_from_slice_get, slice_get-get_or, slice_get_past}
use Rattle.ca_net.specs.declared.trit.Trit.{Trit}
use Rattle.ca_net.specs.declared.trit.Trit.TheVariants.{Zero, One, X}
use Rattle.ca_net.specs.declared.node.NodeKind.{NodeKind}
use Rattle.ca_net.specs.declared.node.NodeKind.TheVariants.{Input, Storage}
use Rattle.ca_net.specs.Circuit.{Circuit, kind_at}
use Rattle.ca_net.specs.State.{value_at}
use Rattle.ca_order.specs.declared.event.Place.{Place}
use Rattle.ca_order.specs.declared.event.Place.TheVariants as place
use Rattle.ca_order.specs.Allowed.{MaySet, ArePlaces}
use Rattle.ca_order.specs.code.Allowed.{IsFree}

-- the first n nodes have their places
pub record HavePlaces (net : Circuit) (v1 v2 : List Trit) (n : ℕ) (places : List Place) : Type 0 where
  pub each : length places ≡ n
  pub free : (m : ℕ) → m < n → (slice_get places m ≡ Some place.Free) ↔ MaySet net v1 v2 m

module _ (net : Circuit) (v1 v2 : List Trit) (n : ℕ) (places : List Place) (before : HavePlaces net v1 v2 n places) where
  front : (here : Place) (m : ℕ) → m < n → slice_get (places ++ here ∷ []) m ≡ slice_get places m
  front here m lt =
      let within : m < length places = subst (λ k. m < k) (sym before.each) lt in
      let more : m < length (places ++ here ∷ []) = omega (arith, length-append places (here ∷ [])) in
      slice_get-get_or (places ++ here ∷ []) m here more
      ∙ (ap (λ (x : Place). Some x) (get_or_append_left places (here ∷ []) here m within)
      ∙ sym (slice_get-get_or places m here within))

  seam : (here : Place) → slice_get (places ++ here ∷ []) n ≡ Some here
  seam here =
      let more : n < length (places ++ here ∷ []) = let each = before.each in omega (arith, length-append places (here ∷ [])) in
      slice_get-get_or (places ++ here ∷ []) n here more
      ∙ ap (λ (x : Place). Some x) (ap (λ k. get_or (places ++ here ∷ []) k here) (sym before.each) ∙ get_or-append_seam places here [] here)

  pub one_place : (kind : NodeKind) (first last : Trit) (here : Place) → n < length net.nodes → slice_get net.nodes n ≡ Some kind
      → first ≡ value_at v1 n → last ≡ value_at v2 n → (here ≡ place.Free) ↔ IsFree kind first last
      → HavePlaces net v1 v2 (n + 1) (places ++ here ∷ [])
  one_place kind first last here lt got is_first is_last given = record {
    each = let each = before.each in omega (arith, length-append places (here ∷ []));
    free = λ m le. elim (ℕ_discrete m n) [
      | yes same ↦ subst (λ k. (slice_get (places ++ here ∷ []) k ≡ Some place.Free) ↔ MaySet net v1 v2 k) (sym same) at_end
      | no other ↦
          let less : m < n = omega arith in
          (λ e. (before.free m less).0 (sym (front here m less) ∙ e), λ may. front here m less ∙ (before.free m less).1 may)
    ];
  } where
    is : (here ≡ place.Free) ↔ IsFree kind (value_at v1 n) (value_at v2 n)
    is = subst (λ x. (here ≡ place.Free) ↔ IsFree kind (value_at v1 n) x) is_last
        (subst (λ x. (here ≡ place.Free) ↔ IsFree kind x last) is_first given)

    kind_is : kind_at net n ≡ kind
    kind_is = get_or_from_slice_get net.nodes n kind Input got

    at_end : (slice_get (places ++ here ∷ []) n ≡ Some place.Free) ↔ MaySet net v1 v2 n
    at_end = (
      λ e.
          let some : ◌≡◌ {A = Option Place} (Some here) (Some place.Free) = sym (seam here) ∙ e in
          let free : ◌≡◌ {A = Place} here place.Free = cc in
          ((lt, kind_is ∙ (is.0 free).0), (is.0 free).1),
      λ may. seam here ∙ ap (λ (x : Place). Some x) (is.1 (sym kind_is ∙ may.0.1, may.1)),
    )

  pub all_places : n ≡ length net.nodes → ArePlaces net v1 v2 places
  all_places all = record {
    each = before.each ∙ all;
    free = λ m. elim (dec_le (m + 1) n) [
      | yes le ↦ before.free m (omega arith)
      | no gt ↦ (
        λ e.
            let past : ◌≡◌ {A = Option Place} None (Some place.Free)
            = sym (slice_get_past places m (let each = before.each in omega arith)) ∙ e in cc,
        λ may. let lt = may.0.0 in absurd (omega arith),
      )
    ];
  }

-- a node of each kind has a place
place_for : (kind : NodeKind) (first last : Trit) → (here : Place) × ((here ≡ place.Free) ↔ IsFree kind first last)
place_for (Storage size) first last = (place.Fixed, (λ e. cc, λ free. let e = free.0 in cc))
place_for Input Zero Zero = (place.Fixed, (λ e. cc, λ free. let e : Zero ≡ X = free.1 refl in cc))
place_for Input One One = (place.Fixed, (λ e. cc, λ free. let e : One ≡ X = free.1 refl in cc))
place_for Input Zero One = (place.Free, (λ e. (refl, λ same. cc), λ free. refl))
place_for Input Zero X = (place.Free, (λ e. (refl, λ same. cc), λ free. refl))
place_for Input One Zero = (place.Free, (λ e. (refl, λ same. cc), λ free. refl))
place_for Input One X = (place.Free, (λ e. (refl, λ same. cc), λ free. refl))
place_for Input X last = (place.Free, (λ e. (refl, λ same. refl), λ free. refl))

-- the nodes of each network have places
first_places : (net : Circuit) (v1 v2 : List Trit) (n : ℕ) → n ≤ length net.nodes → (places : List Place) × HavePlaces net v1 v2 n places
first_places net v1 v2 zero le = ([], record { each = refl; free = λ m lt. absurd (omega arith) })
first_places net v1 v2 (suc n) le =
    let before = first_places net v1 v2 n (omega arith) in
    let kind = kind_at net n in
    let here = place_for kind (value_at v1 n) (value_at v2 n) in
    let next : n + 1 ≡ suc n = omega arith in (
      before.0 ++ here.0 ∷ [],
      subst (λ k. HavePlaces net v1 v2 k (before.0 ++ here.0 ∷ [])) next
          (one_place net v1 v2 n before.0 before.1 kind (value_at v1 n) (value_at v2 n) here.0 (omega arith)
          (slice_get-get_or net.nodes n Input (omega arith)) refl refl here.1),
    )

pub some_places : (net : Circuit) (v1 v2 : List Trit) → (places : List Place) × ArePlaces net v1 v2 places
some_places net v1 v2 =
    let found = first_places net v1 v2 (length net.nodes) (omega arith) in
    (found.0, all_places net v1 v2 (length net.nodes) found.0 found.1 refl)
