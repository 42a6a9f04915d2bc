-- Each step says the first word of what is left.
use Rattle.std.proofs.Common.{◌++◌, ◌∙◌, ◌<◌, ap, drop, length, map, subst, sym}
use Rattle.vc_model_lines.specs.LineWords.{first_word, words}
use Rattle.vc_model_lines.proofs.WordParts.{after_shorter, begins_with_space, front_free, front_is, one_more}
use Rattle.vc_model_lines.proofs.words.words.Goals as goal

pub loop-rest-init : goal.loop-rest-init
loop-rest-init c = record {
  said = ap (λ said. map (λ word. word.now) said ++ words c.without_spaces_before-rest.result.now)
      c.new-words.ensures.items
      ∙ ap words c.without_spaces_before-rest.ensures ∙ front_is c.args.line.now;
  free = ap begins_with_space c.without_spaces_before-rest.ensures ∙ front_free c.args.line.now;
}

pub loop-rest-smaller : goal.loop-rest-smaller
loop-rest-smaller c =
    let rest = c.loop-rest.rest.now in
    subst (λ left. length left < length rest) (sym c.after_word-rest.ensures)
    (after_shorter rest c.loop-rest.invariant.free c.loop-rest-test.true)

pub loop-rest-preserved : goal.loop-rest-preserved
loop-rest-preserved c =
    let rest = c.loop-rest.rest.now in
    record {
      said = ap (λ said. map (λ word. word.now) said ++ words c.after_word-rest.result.now) c.in_ok-push.ensures.items
          ∙ one_more (λ word. word.now) c.loop-rest.words.items c.first_word-word.result rest
          c.after_word-rest.result.now c.args.line.now
          c.loop-rest.invariant.free c.loop-rest-test.true c.first_word-word.ensures c.after_word-rest.ensures
          c.loop-rest.invariant.said;
      free = ap begins_with_space c.after_word-rest.ensures ∙ front_free (drop (length (first_word rest)) rest);
    }
