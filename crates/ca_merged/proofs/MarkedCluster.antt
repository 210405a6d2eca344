-- The cluster of a bridge, by marks.
use Rattle.std.proofs.Common.{◌≡◌, ℕ, ◌<◌, ◌⊎◌, List, [], ◌∷◌, ◌++◌, Bool, true, inl, inr, sym}
use Rattle.std.proofs.Common.{subst, arith}
use Rattle.std.specs.Prelude.{◌&&◌, ◌||◌}
use Rattle.std.specs.List.{Contains}
use Rattle.std.proofs.lemmas.Bool.{or_cases, or_left, or_right, and_parts, and_from}
use Rattle.std.proofs.lemmas.List.Elements.{Contains-append_right}
use Rattle.ca_flat.specs.Chip.{Chip, count_of}
use Rattle.ca_merged.specs.Merged.{FeedsInstance, IsInstanceChain}
use Rattle.ca_merged.specs.Members.{DrivesEnd, IsAtEnd, IsAtBridge, IsAfterBridge, IsBeforeBridge}
use Rattle.ca_merged.specs.Members.{AreBridgeMarks, marked_instances, AreClusterMembers}
use Rattle.ca_merged.specs.Laws.{MarksGiveCluster}
use Rattle.ca_merged.proofs.Lists.{cons_cases, cons_here, none_in_nil, passing_holds, passing_listed, passing_rising}

-- a chain through an instance is one to it and one from it
record Parted (chip : Chip) (a b x : ℕ) : Type 0 where
  to_it : List ℕ
  from_it : List ℕ
  chain_to : IsInstanceChain chip a to_it x
  chain_from : IsInstanceChain chip x from_it b

parted : (chip : Chip) (a : ℕ) (path : List ℕ) (b x : ℕ) → IsInstanceChain chip a path b → Contains path x → Parted chip a b x
parted chip a [] b x h c = absurd (none_in_nil x c)
parted chip a (y ∷ more) b x h c = elim (cons_cases y more x c) [
  | inl e ↦ record {
    to_it = [];
    from_it = more;
    chain_to = subst (FeedsInstance chip a) e h.0;
    chain_from = subst (λ z. IsInstanceChain chip z more b) e h.1;
  }
  | inr later ↦
      let p = parted chip y more b x h.1 later in
      record { to_it = y ∷ p.to_it; from_it = p.from_it; chain_to = (h.0, p.chain_to); chain_from = p.chain_from }
]

joined : (chip : Chip) (a : ℕ) (path : List ℕ) (x : ℕ) (more : List ℕ) (b : ℕ) → IsInstanceChain chip a path x → IsInstanceChain chip x more b
    → IsInstanceChain chip a (path ++ x ∷ more) b
joined chip a [] x more b h k = (h, k)
joined chip a (y ∷ path) x more b h k = (h.0, joined chip y path x more b h.1 k)

-- the last of a chain is an instance
chain_known : (chip : Chip) (a : ℕ) (path : List ℕ) (b : ℕ) → IsInstanceChain chip a path b → b < count_of chip
chain_known chip a [] b h = h.fed_known
chain_known chip a (y ∷ more) b h = chain_known chip y more b h.1

module _ (chip : Chip) (u m n : ℕ) (at after before : ℕ → Bool) (known : u < count_of chip) (marks : AreBridgeMarks chip u m n at after before) where
  passes : ℕ → Bool
  passes x = at x || (after x && before x)

  end_known : (e x : ℕ) → DrivesEnd chip u e x → x < count_of chip
  end_known e x d = subst (λ y. y < count_of chip) d.1.1 d.1.0.known

  at_end_known : (e x : ℕ) → IsAtEnd chip u e x → x < count_of chip
  at_end_known e x d = subst (λ y. y < count_of chip) (sym d.1) known

  at_known : (x : ℕ) → IsAtBridge chip u m n x → x < count_of chip
  at_known x (inl (inl d)) = end_known m x d
  at_known x (inl (inr d)) = end_known n x d
  at_known x (inr (inl d)) = at_end_known m x d
  at_known x (inr (inr d)) = at_end_known n x d

  listed : (x : ℕ) → x < count_of chip → passes x ≡ true → Contains (marked_instances chip at after before) x
  unfolding passes
  listed x lt h = passing_listed (λ x. at x || (after x && before x)) (count_of chip) 0 x (omega arith) (omega arith) h

  holds : (x : ℕ) → Contains (marked_instances chip at after before) x → IsAtBridge chip u m n x ⊎ (IsAfterBridge chip u m n x × IsBeforeBridge chip u m n x)
  holds x c =
      let h = (passing_holds (λ x. at x || (after x && before x)) (count_of chip) 0 x c).2 in
      elim (or_cases (at x) (after x && before x) h) [
        | inl a ↦ inl ((marks.at_are x).0 a)
        | inr b ↦
            let p = and_parts (after x) (before x) b in
            inr ((marks.after_are x).0 p.0, (marks.before_are x).0 p.1)
      ]

  -- what a member leads to is after the bridge, and what leads to one is before it
  after_from : (a : ℕ) (path : List ℕ) (x : ℕ) → Contains (marked_instances chip at after before) a → IsInstanceChain chip a path x → IsAfterBridge chip u m n x
  after_from a path x c h = elim (holds a c) [
    | inl is ↦ record { from = a; from_is = is; path = path; chain = h }
    | inr both ↦
        let b = both.0 in
        record { from = b.from; from_is = b.from_is; path = b.path ++ a ∷ path; chain = joined chip b.from b.path a path x b.chain h }
  ]

  before_to : (x : ℕ) (path : List ℕ) (b : ℕ) → Contains (marked_instances chip at after before) b → IsInstanceChain chip x path b → IsBeforeBridge chip u m n x
  before_to x path b c h = elim (holds b c) [
    | inl is ↦ record { to = b; to_is = is; path = path; chain = h }
    | inr both ↦
        let k = both.1 in
        record { to = k.to; to_is = k.to_is; path = path ++ b ∷ k.path; chain = joined chip x path b k.path k.to h k.chain }
  ]

  closed : (a b : ℕ) (path : List ℕ) → Contains (marked_instances chip at after before) a → Contains (marked_instances chip at after before) b
      → IsInstanceChain chip a path b → (x : ℕ) → Contains path x → Contains (marked_instances chip at after before) x
  unfolding passes
  closed a b path ca cb h x cx =
      let p = parted chip a path b x h cx in
      let y = after_from a p.to_it x ca p.chain_to in
      let z = before_to x p.from_it b cb p.chain_from in
      listed x (chain_known chip a p.to_it x p.chain_to)
      (or_right (at x) (after x && before x) (and_from (after x) (before x) ((marks.after_are x).1 y) ((marks.before_are x).1 z)))

  cluster : AreClusterMembers chip u m n (marked_instances chip at after before)
  unfolding passes
  cluster = record {
    are = record {
      known = λ x c. let h = passing_holds (λ x. at x || (after x && before x)) (count_of chip) 0 x c in omega (arith, h.1);
      ascending = passing_rising (λ x. at x || (after x && before x)) (count_of chip) 0;
      closed = closed;
    };
    ends = λ x is. listed x (at_known x is) (or_left (at x) (after x && before x) ((marks.at_are x).1 is));
    least = λ x c. elim (holds x c) [
      | inl is ↦ inl is
      | inr both ↦
          let b = both.0 in let k = both.1 in
          inr (record {
            from = b.from;
            to = k.to;
            from_is = b.from_is;
            to_is = k.to_is;
            path = b.path ++ x ∷ k.path;
            chain = joined chip b.from b.path x k.path k.to b.chain k.chain;
            on = Contains-append_right b.path (x ∷ k.path) x (cons_here x k.path);
          })
    ];
  }

pub marks_give_cluster_lem : MarksGiveCluster
marks_give_cluster_lem chip u m n at after before known marks = cluster chip u m n at after before known marks
