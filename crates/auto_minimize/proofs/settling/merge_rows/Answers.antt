use Rattle.std.proofs.Common.{arith, ◌∙◌, length, subst, sym}
use Rattle.track_word.specs.Word.{IsWord}
use Rattle.auto_minimize.proofs.settling.merge_rows.Goals as goal

pub returns-clause-ok : goal.returns-clause-ok
returns-clause-ok g c =
    let once = c.in_ok-once.ensures.ok in
    let m = c.in_ok-m.ensures in
    let fewer = m.fewer in
    let few = once.few in
    record {
      tracks = m.tracks ∙ once.tracks;
      words = λ word is.
          let here = m.words word (subst (λ t. IsWord (length t) word) (sym once.tracks) is) in
          let there = once.words word is in
          (λ h. there.0 (here.0 h), λ h. here.1 (there.1 h));
      reached = λ all. m.reached (once.reached all);
      few = omega (arith, fewer, few);
      within = once.within;
    }
