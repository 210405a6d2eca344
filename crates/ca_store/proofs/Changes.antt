-- What several writes to one file leave together.
use Rattle.std.proofs.Common.{◌≡◌, ℕ, ◌+◌, List, ◌++◌, take, drop, Option, Some}
use Rattle.std.proofs.Common.{inr, ap, sym, ◌∙◌}
use Rattle.std.proofs.lemmas.List.{take-append-drop}
use Rattle.std.proofs.Math.Seq.{take-add}
use Rattle.ca_store.specs.Store.{Files, Opened, Writing, appended}
use Rattle.ca_store.specs.Writing.{SetsOne, ChangesOnly, WritesOn, MayWrite}

-- a change of a file that was changed before
sets_again : (before mid : Files) (mid_files new : Option Files) (name : List ℕ) (one two : Option (List ℕ))
    → SetsOne before mid_files name one → mid_files ≡ Some mid → SetsOne mid new name two → SetsOne before new name two
sets_again before mid mid_files new name one two first is_mid second =
    let same : first.after ≡ mid = same_files first.after mid (sym first.reported ∙ is_mid) in
    record {
      after = second.after;
      reported = second.reported;
      set = second.set;
      others = λ other not_name. second.others other not_name ∙ ap (λ (t : Files). t other) (sym same)
          ∙ first.others other not_name;
    }
  where
    same_files : (a b : Files) → Some a ≡ Some b → a ≡ b
    same_files a b same = cc

-- a write goes on from what earlier writes left
pub writes_more : (old mid new : Option Files) (was now : Opened) (name bytes piece : List ℕ) (done n : ℕ)
    → piece ≡ drop done bytes
    → ChangesOnly old mid name (Some (take done bytes))
    → ((reported : Files) → old ≡ Some reported → was ≡ Writing name)
    → WritesOn n piece mid new was now
    → ((reported : Files) → old ≡ Some reported → now ≡ Writing name) × ChangesOnly old new name (Some (take (done + n) bytes))
writes_more old mid new was now name bytes piece done n rest so_far named wrote = (
  λ reported is_reported.
      let at = so_far.reported reported is_reported in
      (wrote.appends name (named reported is_reported) at.after at.reported).still,
  record {
    reported = λ before is_reported.
        let at = so_far.reported before is_reported in
        let step = (wrote.appends name (named before is_reported) at.after at.reported).appends in
        sets_again before at.after mid new name _ _ at at.reported (record {
          after = step.after;
          reported = step.reported;
          set = step.set ∙ ap (appended (take n piece)) at.set ∙ ap Some grown;
          others = step.others;
        });
    unreported = λ none. wrote.unreported (so_far.unreported none);
  },
)
  where
    grown : take done bytes ++ take n piece ≡ take (done + n) bytes
    grown = ap (λ (p : List ℕ). take done bytes ++ take n p) rest ∙ sym (take-add done n bytes)

-- what was written when a write failed
pub wrote_part : (old mid new : Option Files) (name bytes : List ℕ) (done : ℕ)
    → ChangesOnly old mid name (Some (take done bytes)) → new ≡ mid → MayWrite old new name bytes
wrote_part old mid new name bytes done so_far same = inr (record {
  part = take done bytes;
  rest = drop done bytes;
  whole = take-append-drop done bytes;
  written = record {
    reported = λ before is_reported.
        let at = so_far.reported before is_reported in
        record { after = at.after; reported = same ∙ at.reported; set = at.set; others = at.others };
    unreported = λ none. same ∙ so_far.unreported none;
  };
})
