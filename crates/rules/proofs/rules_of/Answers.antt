use mathlib.Core.Path.{refl, ◌∙◌}
use Rattle.rules.proofs.rules_of.Goals as goal

pub returns : goal.returns
returns c = record {
  count = refl;
  wide = c.words_for-words.ensures.0;
  words = c.words_for-words.ensures.1;
  head = c.head_rows-head.ensures;
  part = c.part_rows-part.ensures;
  first = c.first_rows-first.ensures;
  lit = c.has_links-lit.result;
  able = c.linkable-links.result.able;
  links = c.linkable-links.ensures;
  names = c.names-named.ensures;
  linked = λ h. c.has_links-lit.ensures ∙ h;
}
