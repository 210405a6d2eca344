-- The codes of the tied netlist, read token by token.
use Rattle.std.proofs.Common.{◌≡◌, [], ◌∷◌, refl, arith, inl, inr}
use Rattle.ca_net.specs.declared.trit.Trit.TheVariants.{Zero, One, X}
use Rattle.ca_flat.specs.Chain.{Feeds, IsReachedFrom, Leads}
use Rattle.ca_flat.specs.Codes.{At, Ended}
use Rattle.ca_flat_tests.specs.Tied.{tied_chip, TiedSupport, TiedReads}

zero_known : Zero ≡ X → ⊥
zero_known same = cc

one_known : One ≡ X → ⊥
one_known same = cc

feeds : Feeds tied_chip 0 1
feeds = record {
  instance = 0;
  known = omega arith;
  pin = 0;
  pin_within = omega arith;
  reads = refl;
  output = 0;
  output_within = omega arith;
  drives = refl;
}

leads : Leads tied_chip 0 1
leads = record { path = 1 ∷ []; is_chain = (feeds, refl) }

reached : IsReachedFrom tied_chip 0 1
reached = record {
  from = 1;
  is_output = record { output = 0; within = omega arith; on = refl };
  leads = record { path = []; is_chain = refl };
}

pub tied_support_lem : TiedSupport
tied_support_lem = (
  record {
    place = 0;
    net = 0;
    is_input = refl;
    is_bit = inl refl;
    output = 1;
    observed = (0, omega arith, refl);
    leads = leads;
    reached = reached;
  },
  record {
    place = 0;
    net = 0;
    is_input = refl;
    is_bit = inr refl;
    output = 1;
    observed = (0, omega arith, refl);
    leads = leads;
    reached = reached;
  },
)

pub tied_reads_lem : TiedReads
tied_reads_lem = record {
  whole = (refl, (refl, ((zero_known, zero_known), ((zero_known, one_known), (refl, ((one_known, zero_known), ((one_known, one_known), refl)))))));
  branches = refl;
  before_all = record { later = []; reads = refl };
  first_zero = record { later = (One ∷ X ∷ []) ∷ []; reads = (refl, refl) };
  both_zero = record { later = (Zero ∷ One ∷ []) ∷ (One ∷ X ∷ []) ∷ []; reads = (refl, (refl, refl)) };
  last_one = record { later = (One ∷ X ∷ []) ∷ []; reads = (refl, (refl, ((zero_known, zero_known), refl))) };
  first_one = record { later = []; reads = (refl, (refl, ((zero_known, zero_known), ((zero_known, one_known), refl)))) };
  both_one = record {
    later = [];
    reads = (refl, (refl, ((zero_known, zero_known), ((zero_known, one_known), (refl, ((one_known, zero_known), refl))))));
  };
  spent = record {
    pair = Zero ∷ X ∷ [];
    front = record { later = (One ∷ X ∷ []) ∷ []; reads = (refl, refl) };
    spent = refl;
    bit = 1;
    goes_on = refl;
  };
  early_leaf = λ code. code.1.0.1 refl;
  bit_twice = λ pair code. zero_known code.reads.1.0;
  too_short = λ code. not_ended code.1.1.1.1;
  too_long = λ code. code.1.1.1.1.1.1.1;
}
  where
    not_ended : At (One ∷ X ∷ []) [] ≡ Ended → ⊥
    not_ended same = cc
