-- The fields of a page that contracts see.
use Rattle.hiding_rules.specs.Hidden.{scanner}
use Rattle.model_page.specs.declared.page.Page.TheInside.{Inside}
use Rattle.model_page.specs.State.{PageState}

abbrev pub page_of : Inside → PageState
page_of p = record {
  text = p.text;
  decorations = p.decorations;
  scanner = scanner p.table p.hiding;
  parsed = p.last.parsed;
  tree = p.last.tree;
  marks = p.last.marks;
  states = p.last.states;
  spare = p.last.spare;
}
