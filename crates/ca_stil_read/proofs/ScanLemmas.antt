-- The scan groups.
use Rattle.std.proofs.Common.{◌≡◌, ℕ, Bool, true, false, List, length, ap, ◌∙◌, subst, codes}
use Rattle.ca_stil_form.specs.Form.{Token, Outcome, Got, with_first, read_after}
use Rattle.ca_stil_form.specs.Grammar.{Form, and_then}
use Rattle.ca_stil_form.specs.Frame.{Signal, Names, names_of, fits_in_order, fits_in_number, key_controls}
use Rattle.ca_stil_form.specs.Whole.{group_form, scan_form}
use Rattle.ca_stil_read.specs.declared.pool.Pools.{Pools}
use Rattle.ca_stil_read.specs.declared.stop.Stop.{Stop}
use Rattle.ca_stil_read.specs.declared.stop.Stop.TheVariants as stop
use Rattle.ca_stil_read.specs.code.Groups.{ArePools}
use Rattle.ca_stil_read.specs.code.Views.{IsStopped}
use Rattle.ca_stil_read.proofs.GroupLemmas.{fits_same}

-- one form after another stops, or is read
pub and_then_stopped : {First Second : Type 0} (why : Stop) (first : Form First) (second : First → Form Second) (tokens : List Token)
    → IsStopped why (first.read tokens) → IsStopped why ((and_then first second).read tokens)
and_then_stopped {First} (stop.Stuck rest) first second tokens is =
    ap (λ (given : Outcome First). read_after given (λ (value : First). (second value).read)) is
and_then_stopped stop.NoMemory first second tokens is = tt

pub and_then_stopped_after : {First Second : Type 0} (why : Stop) (first : Form First) (second : First → Form Second) (tokens rest : List Token) (one : First)
    → first.read tokens ≡ Got one rest → IsStopped why ((second one).read rest) → IsStopped why ((and_then first second).read tokens)
and_then_stopped_after {First} (stop.Stuck after) first second tokens rest one is then_is =
    ap (λ (given : Outcome First). read_after given (λ (value : First). (second value).read)) is ∙ ap (with_first one) then_is
and_then_stopped_after stop.NoMemory first second tokens rest one is then_is = tt

pub and_then_reads : {First Second : Type 0} (first : Form First) (second : First → Form Second) (tokens rest after : List Token) (one : First) (two : Second)
    → first.read tokens ≡ Got one rest → (second one).read rest ≡ Got two after → (and_then first second).read tokens ≡ Got (one, two) after
and_then_reads {First} first second tokens rest after one two is then_is =
    ap (λ (given : Outcome First). read_after given (λ (value : First). (second value).read)) is ∙ ap (with_first one) then_is

-- the scan groups, read by sets of the names
abbrev controls_form : Names → Form Names
controls_form ins = group_form key_controls (fits_in_number 3 ins)

abbrev outs_form : Names → Names → Form Names
outs_form outs scan_ins = group_form (codes "\"_so_\"") (fits_in_number (length scan_ins) outs)

abbrev ports_form : List Signal → Form (Names × Names)
ports_form signals =
    and_then (group_form (codes "\"_si_\"") (fits_in_order (names_of true signals))) (λ scan_ins. outs_form (names_of false signals) scan_ins)

in_fits : (signals : List Signal) (pools : Pools) → ArePools signals pools → (count : ℕ)
    → fits_in_number count pools.in_set ≡ fits_in_number count (names_of true signals)
in_fits signals pools are count = fits_same count pools.in_set pools.ins are.in_set_is ∙ ap (fits_in_number count) are.ins_are

out_fits : (signals : List Signal) (pools : Pools) → ArePools signals pools → (count : ℕ)
    → fits_in_number count pools.out_set ≡ fits_in_number count (names_of false signals)
out_fits signals pools are count = fits_same count pools.out_set pools.outs are.out_set_is ∙ ap (fits_in_number count) are.outs_are

pub controls_stopped : (signals : List Signal) (pools : Pools) → ArePools signals pools → (why : Stop) (tokens : List Token)
    → IsStopped why ((group_form key_controls (fits_in_number 3 pools.in_set)).read tokens) → IsStopped why ((scan_form signals).read tokens)
controls_stopped signals pools are why tokens is =
    and_then_stopped why (controls_form (names_of true signals)) (λ controls. ports_form signals) tokens
    (subst (λ (fits : Names → Bool). IsStopped why ((group_form key_controls fits).read tokens)) (in_fits signals pools are 3) is)

pub controls_read : (signals : List Signal) (pools : Pools) → ArePools signals pools → (tokens rest : List Token) (controls : Names)
    → (group_form key_controls (fits_in_number 3 pools.in_set)).read tokens ≡ Got controls rest
    → (controls_form (names_of true signals)).read tokens ≡ Got controls rest
controls_read signals pools are tokens rest controls is =
    subst (λ (fits : Names → Bool). (group_form key_controls fits).read tokens ≡ Got controls rest) (in_fits signals pools are 3) is

pub ins_stopped : (signals : List Signal) (pools : Pools) → ArePools signals pools → (why : Stop) (tokens rest : List Token) (controls : Names)
    → (group_form key_controls (fits_in_number 3 pools.in_set)).read tokens ≡ Got controls rest
    → IsStopped why ((group_form (codes "\"_si_\"") (fits_in_order pools.ins)).read rest) → IsStopped why ((scan_form signals).read tokens)
ins_stopped signals pools are why tokens rest controls is then_is =
    and_then_stopped_after why (controls_form (names_of true signals)) (λ controls. ports_form signals) tokens rest controls
    (controls_read signals pools are tokens rest controls is)
    (and_then_stopped why (group_form (codes "\"_si_\"") (fits_in_order (names_of true signals))) (outs_form (names_of false signals)) rest
    (subst (λ (ins : Names). IsStopped why ((group_form (codes "\"_si_\"") (fits_in_order ins)).read rest)) are.ins_are then_is))

pub outs_stopped : (signals : List Signal) (pools : Pools) → ArePools signals pools → (why : Stop) (tokens rest after : List Token) (controls scan_ins : Names)
    → (group_form key_controls (fits_in_number 3 pools.in_set)).read tokens ≡ Got controls rest
    → (group_form (codes "\"_si_\"") (fits_in_order pools.ins)).read rest ≡ Got scan_ins after
    → IsStopped why ((group_form (codes "\"_so_\"") (fits_in_number (length scan_ins) pools.out_set)).read after) → IsStopped why ((scan_form signals).read tokens)
outs_stopped signals pools are why tokens rest after controls scan_ins is ins then_is =
    and_then_stopped_after why (controls_form (names_of true signals)) (λ controls. ports_form signals) tokens rest controls
    (controls_read signals pools are tokens rest controls is)
    (and_then_stopped_after why (group_form (codes "\"_si_\"") (fits_in_order (names_of true signals))) (outs_form (names_of false signals)) rest after scan_ins
    (subst (λ (given : Names). (group_form (codes "\"_si_\"") (fits_in_order given)).read rest ≡ Got scan_ins after) are.ins_are ins)
    (subst (λ (fits : Names → Bool). IsStopped why ((group_form (codes "\"_so_\"") fits).read after)) (out_fits signals pools are (length scan_ins)) then_is))

pub scan_read : (signals : List Signal) (pools : Pools) → ArePools signals pools → (tokens rest after last : List Token) (controls scan_ins scan_outs : Names)
    → (group_form key_controls (fits_in_number 3 pools.in_set)).read tokens ≡ Got controls rest
    → (group_form (codes "\"_si_\"") (fits_in_order pools.ins)).read rest ≡ Got scan_ins after
    → (group_form (codes "\"_so_\"") (fits_in_number (length scan_ins) pools.out_set)).read after ≡ Got scan_outs last
    → (scan_form signals).read tokens ≡ Got (controls, (scan_ins, scan_outs)) last
scan_read signals pools are tokens rest after last controls scan_ins scan_outs is ins outs =
    and_then_reads (controls_form (names_of true signals)) (λ controls. ports_form signals) tokens rest last controls (scan_ins, scan_outs)
    (controls_read signals pools are tokens rest controls is)
    (and_then_reads (group_form (codes "\"_si_\"") (fits_in_order (names_of true signals))) (outs_form (names_of false signals)) rest after last scan_ins scan_outs
    (subst (λ (given : Names). (group_form (codes "\"_si_\"") (fits_in_order given)).read rest ≡ Got scan_ins after) are.ins_are ins)
    (subst (λ (fits : Names → Bool). (group_form (codes "\"_so_\"") fits).read after ≡ Got scan_outs last) (out_fits signals pools are (length scan_ins)) outs))
