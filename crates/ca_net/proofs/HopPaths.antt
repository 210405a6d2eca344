-- From the hops of the search to paths, and back.
use Rattle.std.proofs.Common.{◌≡◌, ℕ, ◌<◌, ◌≤◌, List, Bool, true, false, length, inl, inr, refl, sym, ◌∙◌, ap}
use Rattle.std.proofs.Common.{subst, get_or, set, get_or-set_same, get_or-set_other, length-set, replicate}
use Rattle.std.specs.Prelude.{Some}
use Rattle.std.specs.List.{slice_set}
use native.Mathlib.Decide.{ℕ_discrete}
use Rattle.std.proofs.lemmas.Option.{slice_get_within, get_or_from_slice_get, slice_get-get_or}
use Rattle.std.proofs.lemmas.List.{get_or-replicate, length-replicate}
use Rattle.ca_net.specs.declared.path_kind.PathKind.{PathKind}
use Rattle.ca_net.specs.declared.trit.Trit.{Trit}
use Rattle.ca_net.specs.Circuit.{Circuit, IsWellFormed, IsStorage}
use Rattle.ca_net.specs.State.{value_at}
use Rattle.ca_net.specs.Path.{Path, Root, Via, root_of, end_of, strength_of, IsOn, IsPath}
use Rattle.ca_net.specs.code.Walk.{Here, Onward}
use Rattle.ca_net.specs.code.Walk.{IsHop, Leads}
use Rattle.ca_net.specs.Passing.{PassesAt}
use Rattle.ca_net.proofs.Hops.{links_within, named_at}

-- the marks of a path's nodes, among n
abbrev pub marks_of : ℕ → Path → List Bool
marks_of n (Root r) = set (replicate n false) r true
marks_of n (Via p d m) = set (marks_of n p) m true

-- a path that stops at input nodes, all of whose devices pass, and which has at each node at least the node's
-- floor
abbrev pub Goes : Circuit → List Trit → PathKind → List ℕ → Path → Type 0
Goes net s kind floor (Root r) = get_or floor r 0 ≤ strength_of net (Root r)
Goes net s kind floor (Via p d m) =
    Goes net s kind floor p × IsStorage net m × PassesAt kind d.kind (value_at s d.gate.0)
    × (get_or floor m 0 ≤ strength_of net (Via p d m))

length-marks_of : (n : ℕ) (p : Path) → length (marks_of n p) ≡ n
length-marks_of n (Root r) = length-set _ r true ∙ length-replicate n false
length-marks_of n (Via p d m) = length-set _ m true ∙ length-marks_of n p

end_within : (net : Circuit) (p : Path) → IsPath net p → end_of p < length net.nodes
end_within net (Root r) h = h
end_within net (Via p d m) h = h.3

marked : (net : Circuit) (p : Path) (m : ℕ) → IsPath net p → IsOn m p → get_or (marks_of (length net.nodes) p) m false ≡ true
marked net (Root r) m h e =
    let lt : r < length (replicate (length net.nodes) false) = subst (λ x. r < x) (sym (length-replicate (length net.nodes) false)) h in
    subst (λ x. get_or (set (replicate (length net.nodes) false) r true) x false ≡ true) (sym e) (get_or-set_same _ r true false lt)
marked net (Via p d n) m h on = elim (ℕ_discrete m n) [
  | yes e ↦
      let lt : n < length (marks_of (length net.nodes) p) = subst (λ x. n < x) (sym (length-marks_of (length net.nodes) p)) h.3 in
      subst (λ x. get_or (set (marks_of (length net.nodes) p) n true) x false ≡ true) (sym e) (get_or-set_same _ n true false lt)
  | no ne ↦ get_or-set_other _ n m true false ne ∙ marked net p m h.0 (elim on [ inl e ↦ absurd (ne e) | inr o ↦ o ])
]

unmarked : (net : Circuit) (p : Path) (m : ℕ) → (IsOn m p → ⊥) → m < length net.nodes → get_or (marks_of (length net.nodes) p) m false ≡ false
unmarked net (Root r) m off lt = get_or-set_other _ r m true false off ∙ get_or-replicate (length net.nodes) m false false lt
unmarked net (Via p d n) m off lt =
    get_or-set_other _ n m true false (λ e. off (inl e)) ∙ unmarked net p m (λ o. off (inr o)) lt

-- a path that goes on from p
pub record GoesOn (net : Circuit) (s : List Trit) (kind : PathKind) (floor : List ℕ) (root m l : ℕ) : Type 0 where
  pub path : Path
  pub is_path : IsPath net path
  pub goes : Goes net s kind floor path
  pub from : root_of path ≡ root
  pub ends : end_of path ≡ m
  pub strength : strength_of net path ≡ l

module _ (net : Circuit) (well_formed : IsWellFormed net) (s : List Trit) (kind : PathKind) (floor : List ℕ) where
  -- the path after a hop
  hop_path : (p : Path) (i next left : ℕ) → IsPath net p
      → (h : IsHop net s kind floor (marks_of (length net.nodes) p) (end_of p) (strength_of net p) i next left)
      → IsPath net (Via p h.device next)
  hop_path p i next left is_path h =
      let lt : i < length net.devices = slice_get_within net.devices i h.device h.is_device in
      let e : get_or net.devices i h.device ≡ h.device = get_or_from_slice_get net.devices i h.device h.device h.is_device in
      let off : IsOn next p → ⊥ = λ on.
      let a : get_or (marks_of (length net.nodes) p) next false ≡ true = marked net p next is_path on in
      let b : get_or (marks_of (length net.nodes) p) next false ≡ false = get_or_from_slice_get (marks_of (length net.nodes) p) next false false h.unmarked in cc in
      (is_path, (i, lt, e), h.links, links_within _ h.device (end_of p) next (named_at net i h.device well_formed h.is_device) h.links, off)

  -- where hops lead from the end of a path, a path that goes on leads
  path_of : (p : Path) (on : List Bool) (at k m l : ℕ) → IsPath net p → Goes net s kind floor p
      → marks_of (length net.nodes) p ≡ on → end_of p ≡ at → strength_of net p ≡ k
      → Leads net s kind floor on at k m l → GoesOn net s kind floor (root_of p) m l
  path_of p on at k m l is_path goes eo ea ek (Here e f) =
      record { path = p; is_path = is_path; goes = goes; from = refl; ends = ea ∙ e; strength = ek ∙ f }
  path_of p on at k m l is_path goes eo ea ek (Onward i next left hop leads) =
      let h : IsHop net s kind floor (marks_of (length net.nodes) p) (end_of p) (strength_of net p) i next left =
      subst (λ x. IsHop net s kind floor x (end_of p) (strength_of net p) i next left) (sym eo)
      (subst (λ x. IsHop net s kind floor on x (strength_of net p) i next left) (sym ea)
      (subst (λ x. IsHop net s kind floor on at x i next left) (sym ek) hop)) in
      let st : strength_of net (Via p h.device next) ≡ left = sym h.strength in
      path_of (Via p h.device next) (slice_set on next true) next left m l
      (hop_path p i next left is_path h)
      (goes, h.storage, h.passes, subst (λ x. get_or floor next 0 ≤ x) (sym st) h.allowed)
      (ap (λ x. set x next true) eo) refl st leads

  -- each path that goes is followed by the search
  followed : (p : Path) → IsPath net p → Goes net s kind floor p → (m l : ℕ)
      → Leads net s kind floor (marks_of (length net.nodes) p) (end_of p) (strength_of net p) m l
      → Leads net s kind floor (marks_of (length net.nodes) (Root (root_of p))) (root_of p) (strength_of net (Root (root_of p))) m l
  followed (Root r) is_path goes m l leads = leads
  followed (Via p d n) is_path goes m l leads =
      followed p is_path.0 goes.0 m l (Onward is_path.1.0 n (strength_of net (Via p d n)) (record {
        device = d;
        is_device = slice_get-get_or net.devices is_path.1.0 d is_path.1.1 ∙ ap Some is_path.1.2;
        links = is_path.2;
        storage = goes.1;
        unmarked = slice_get-get_or _ n false (subst (λ x. n < x) (sym (length-marks_of (length net.nodes) p)) is_path.3) ∙ ap Some (unmarked net p n is_path.4 is_path.3);
        passes = goes.2;
        strength = refl;
        allowed = goes.3;
      }) leads)

  pub leads_to : (p : Path) → IsPath net p → Goes net s kind floor p
      → Leads net s kind floor (set (replicate (length net.nodes) false) (root_of p) true) (root_of p) (strength_of net (Root (root_of p))) (end_of p) (strength_of net p)
  leads_to p is_path goes = followed p is_path goes (end_of p) (strength_of net p) (Here refl refl)

  pub leads_from : (root m l : ℕ) → root < length net.nodes → get_or floor root 0 ≤ strength_of net (Root root)
      → Leads net s kind floor (set (replicate (length net.nodes) false) root true) root (strength_of net (Root root)) m l
      → GoesOn net s kind floor root m l
  leads_from root m l lt le leads = path_of (Root root) _ root _ m l lt le refl refl refl leads
