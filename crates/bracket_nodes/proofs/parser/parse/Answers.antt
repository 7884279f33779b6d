use Rattle.bracket_nodes.proofs.Parsing.{whole, whole_light, whole_asked}
use Rattle.bracket_nodes.proofs.parser.parse.Goals as goal

pub returns : goal.returns
returns g c =
    let listed = rw c.none.ensures at c.in_ok-part.ensures.listed in
    let start = g.S.Source.ahead c.args.source.now in
    let new = g.S.Source.ahead c.parse_list.new.source in
    record {
      tree = whole start new c.in_ok-part.part.list c.in_ok-part.part.stop listed;
      light = whole_light start new c.in_ok-part.part.list c.in_ok-part.part.stop listed;
      stands = c.in_ok-part.ensures.stands;
      asks = c.parse_list.ensures.asks;
      spends = c.parse_list.ensures.spends;
      whole = whole_asked start new c.in_ok-part.part.list c.in_ok-part.part.stop listed;
    }
