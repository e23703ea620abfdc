use Rattle.family_levels.proofs.laws.laws_below.Goals as goal

pub returns-clause-known : goal.returns-clause-known
returns-clause-known c = record {
  levels = c.made_modules_answer.ensures.levels;
  depths = c.made_modules_answer.ensures.depths;
  itself = c.made_modules_are_known.ensures.itself;
  plain = c.made_modules_are_known.ensures.symbols;
  others = c.known_files_stay_known.ensures.others;
  grows = c.known_files_stay_known.ensures.grows;
  nothing = c.known_files_stay_known.ensures.nothing;
  foreign = c.modules_are_foreign.ensures.itself;
  foreign_nothing = c.modules_are_foreign.ensures.nothing;
}

pub returns-clause-family : goal.returns-clause-family
returns-clause-family c = record {
  checked = c.leveled_is.ensures.checked;
  front = c.leveled_is.ensures.front;
  places = c.declarations_have_places.ensures;
  one_order = c.in_order.ensures.no_other;
  none = c.none_in_order.ensures.any;
}

pub returns-clause-alike : goal.returns-clause-alike
returns-clause-alike c = record {
  known = c.faces_are_known_alike.ensures;
  views = c.made_modules_need_views.ensures;
  found = c.modules_are_found_alike.ensures;
  refused = c.refused_modules_are_found_alike.ensures;
  faces = c.faces_are_made_alike.ensures.made;
}
