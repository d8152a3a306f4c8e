-- How the program ends over bytes in memory.
use Rattle.std.proofs.Common.{◌≡◌, ℕ, List, [], ◌++◌, Some, Result, Ok, Err, Vec, String, refl, sym, ◌∙◌, ap, subst, arith}
use Rattle.std.proofs.lemmas.List.{append-nil}
use Rattle.std.specs.Prelude.{MatchResult}
use Rattle.std.specs.declared.alloc.Global.{Global}
use Rattle.desk_args.specs.Order.{texts, usage_line}
use Rattle.desk_args.specs.declared.order.UsageWhy.TheVariants.{Unknown}
use Rattle.desk_report.specs.Outcome.{Seen, WriteFailed, seen_of}
use Rattle.desk_report.specs.declared.status.Status.{Status}
use Rattle.mate_desk.specs.Faultless.{EndsExactly, Held, NoneFailed, Tells, held}
use Rattle.mate_desk.specs.Run.{RunEnds}
use Rattle.mate_desk.proofs.Faultless.{exact_where_none_fails, whole}
use Rattle.mate_ports.specs.InMemory.{RefusesExactly}
use Rattle.mate_ports.specs.Program.{EndsWithoutWords, ProgramEnds}
use Rattle.mate_ports.specs.declared.program.WordsError.{WordsError}
use Rattle.mate_ports.specs.declared.program.WordsError.TheVariants as words_error

-- what is seen of a slice, of a vector that has failed so often, and of files in memory
abbrev seen_in : Held → (writes : ℕ) → Seen
seen_in all writes = seen_of (Some all.input) (Some all.output) (Some all.files) 0 writes 0

same_some : {A : Type 0} (x y : A) → Some x ≡ Some y → x ≡ y
same_some x y same = cc

-- what they tell is what they hold
told_is : (all told : Held) (writes : ℕ) → Tells (seen_in all writes) told → told ≡ all
told_is all told writes tells =
    ap (λ i. held i told.output told.files) (sym (same_some all.input told.input tells.input))
    ∙ ap (λ o. held all.input o told.files) (sym (same_some all.output told.output tells.output))
    ∙ ap (λ f. held all.input all.output f) (sym (same_some all.files told.files tells.files))

-- how the program ends, by its words or by why there are none
abbrev pub Exactly : Result (Vec (String Global) Global) WordsError → Status → (old new : Held) → Type 0
Exactly words status old new = MatchResult words (λ given. EndsExactly (texts given.items) status old new) (λ why. RefusesExactly why status old new)

-- a vector that has not failed leaves none that has
module _ (status : Status) (old new : Held) (writes : ℕ) (none : writes ≡ 0) where
  none_failed : NoneFailed (seen_in old 0) (seen_in new writes)
  none_failed = record {
    source = λ risen. absurd (omega (arith, risen));
    sink = λ risen. absurd (omega (arith, risen, none));
    shelf = λ risen. absurd (omega (arith, risen));
  }

  by_words : (words : List (List ℕ)) → RunEnds words status (seen_in old 0) (seen_in new writes) → EndsExactly words status old new
  by_words words run =
      let told : Tells (seen_in old 0) old = record { input = refl; output = refl; files = refl } in
      let ended = exact_where_none_fails words status old (seen_in old 0) (seen_in new writes) told none_failed run in
      subst (EndsExactly words status old) (told_is new ended.new writes ended.told) ended.ends

  without_words : (why : WordsError) → EndsWithoutWords why status (seen_in old 0) (seen_in new writes) → RefusesExactly why status old new
  without_words words_error.Memory ends = record {
    refused = ends.refused.0;
    input = same_some new.input old.input ends.left;
    output = same_some new.output old.output ends.refused.1 ∙ sym (append-nil old.output);
    files = same_some new.files old.files ends.files;
  }
  without_words words_error.Untold ends = record {
    refused = ends.refused.0;
    input = same_some new.input old.input ends.left;
    output =
        same_some new.output (old.output ++ usage_line Unknown)
        (whole (Some old.output) (Some new.output) old.output [] (usage_line Unknown) (WriteFailed (seen_in old 0) (seen_in new writes)) refl none_failed.sink ends.refused.1);
    files = same_some new.files old.files ends.files;
  }

  exactly : (words : Result (Vec (String Global) Global) WordsError) → ProgramEnds words status (seen_in old 0) (seen_in new writes) → Exactly words status old new
  exactly (Ok given) ends = by_words (texts given.items) ends
  exactly (Err why) ends = without_words why ends

-- so it is where the vector is seen to hold this before and after, and to have failed so often
pub ends_exactly : (words : Result (Vec (String Global) Global) WordsError) (status : Status) (old new : Held) (before after : List ℕ) (none some : ℕ)
    → before ≡ old.output → none ≡ 0 → after ≡ new.output → some ≡ 0
    → ProgramEnds words status (seen_of (Some old.input) (Some before) (Some old.files) 0 none 0) (seen_of (Some new.input) (Some after) (Some new.files) 0 some 0)
    → Exactly words status old new
ends_exactly words status old new before after none some was begins is ends run =
    let P : Seen → Type 0 = λ seen. ProgramEnds words status seen (seen_of (Some new.input) (Some after) (Some new.files) 0 some 0) in
    let Q : Seen → Type 0 = λ seen. ProgramEnds words status (seen_in old 0) seen in
    let first : seen_of (Some old.input) (Some before) (Some old.files) 0 none 0 ≡ seen_in old 0 =
    ap (λ out. seen_of (Some old.input) (Some out) (Some old.files) 0 none 0) was ∙ ap (λ faults. seen_of (Some old.input) (Some old.output) (Some old.files) 0 faults 0) begins
    in
    let last : seen_of (Some new.input) (Some after) (Some new.files) 0 some 0 ≡ seen_in new some = ap (λ out. seen_of (Some new.input) (Some out) (Some new.files) 0 some 0) is in
    exactly status old new some ends words (subst Q last (subst P first run))
