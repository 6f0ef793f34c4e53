-- The lists where every edge goes the other way: only names change.
use Rattle.std.specs.Prelude.{Bool, map, option_map}
use Rattle.graph_state.specs.declared.name.ListName.{ListName}
use Rattle.graph_state.specs.declared.name.Element.{Element}
use Rattle.graph_state.specs.Turned.{turned_list, turned_element}
use Rattle.graph_lists.specs.Named.{Named}
use Rattle.graph_lists.specs.Table.{each, renamed}

-- the list of a head, and the element of a member
abbrev pub list_owner : Bool → Bool × ListName → Bool × ListName
list_owner directed o = (o.0, turned_list directed o.1)

abbrev pub element_owner : Bool × Element → Bool × Element
element_owner o = (o.0, turned_element o.1)

-- each list and each element has its other name
abbrev pub turned : Bool → Named → Named
turned directed v = record {
  heads = renamed (turned_list directed) v.heads;
  hooks = renamed turned_element v.hooks;
  lists = renamed (turned_list directed) (each (map turned_element) v.lists);
  shown = renamed turned_element v.shown;
  loose = map turned_element v.loose;
  owner = each (option_map (list_owner directed)) v.owner;
  who = each (option_map element_owner) v.who;
}
