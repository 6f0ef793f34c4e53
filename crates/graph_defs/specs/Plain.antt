-- Graphs as files have them: nodes and edges by their places. The valid ones are those that a file
-- can hold.
use Rattle.std.specs.Prelude.{◌≡◌, ◌≤◌, ◌<◌, ℕ, ◌+◌, ◌-◌, Bool, true, false, ◌&&◌, ◌==◌, not, List, [], ◌∷◌, length, slice_index, slice_get, codes, bytes_eq, Option, Some, None, IfSome}
use Rattle.std.specs.Bool.{OnTrue}
use Rattle.std.specs.List.{AllByRecursion}
use Rattle.std.specs.Option.{option_map_or}
use Rattle.leda_base.specs.Bytes.{is_blank, is_one_line}
use Rattle.leda_base.specs.declared.name.TheConstants.{LABEL_LIMIT}
use Rattle.graph_defs.specs.declared.net.TheConstants.{NODE_LIMIT, ARC_LIMIT}
use Rattle.graph_defs.specs.declared.plain.TheConstants.{TYPE_LIMIT}
use Rattle.graph_defs.specs.declared.plain.PlainEdge.{PlainEdge}
use Rattle.graph_defs.specs.declared.plain.PlainGraph.{PlainGraph}

-- The name of a type of labels: 1 to 255 bytes of one line, which neither begins nor ends with a
-- blank, and doesn't begin with the mark of a comment, `#`.
pub record IsTypeName (name : List ℕ) : Type 0 where
  pub some : 1 ≤ length name
  pub short : length name ≤ TYPE_LIMIT
  pub one_line : is_one_line name ≡ true
  pub first : is_blank (slice_index name 0) ≡ false
  pub last : is_blank (slice_index name (length name - 1)) ≡ false
  pub mark : (slice_index name 0 == 35) ≡ false

-- the type of elements without labels
abbrev pub is_void : List ℕ → Bool
is_void name = bytes_eq name (codes "void")

-- a label where elements have labels or, if void, have none: at most 60,000 bytes of one line
pub record IsLabelOf (void : Bool) (label : List ℕ) : Type 0 where
  pub short : length label ≤ LABEL_LIMIT
  pub one_line : is_one_line label ≡ true
  pub empty : OnTrue void (length label ≡ 0)

-- the number is this one
abbrev pub is_number : Option ℕ → ℕ → Bool
is_number None i = false
is_number (Some j) i = j == i

-- an edge that names the edge of this number as its reversal, and runs between the same nodes the
-- other way
abbrev pub leads_back : ℕ → PlainEdge → PlainEdge → Bool
leads_back i edge back = is_number back.rev i && (back.from == edge.to && back.to == edge.from)

-- the edge of number i may have this reversal: none, or another edge that leads back
abbrev pub may_have : List PlainEdge → ℕ → PlainEdge → Option ℕ → Bool
may_have edges i edge None = true
may_have edges i edge (Some r) =
    not (r == i) && option_map_or (leads_back i edge) (slice_get edges r) false

-- the edge of number i has no reversal, or one with which it is paired
abbrev pub is_paired : List PlainEdge → ℕ → PlainEdge → Bool
is_paired edges i edge = may_have edges i edge edge.rev

-- so it is with each of the edges from number i on
abbrev pub are_paired : List PlainEdge → ℕ → List PlainEdge → Bool
are_paired edges i [] = true
are_paired edges i (edge ∷ later) = is_paired edges i edge && are_paired edges (i + 1) later

-- an edge of a graph with so many nodes and edges
pub record IsPlainEdge (nodes edges : ℕ) (void : Bool) (edge : PlainEdge) : Type 0 where
  pub from : edge.from < nodes
  pub to : edge.to < nodes
  pub rev : IfSome edge.rev (λ r. r < edges)
  pub label : IsLabelOf void edge.label

-- a valid plain graph: at most 100,000 nodes and 400,000 edges
pub record IsPlainGraph (g : PlainGraph) : Type 0 where
  pub node_type : IsTypeName g.node_type
  pub edge_type : IsTypeName g.edge_type
  pub few_nodes : length g.nodes ≤ NODE_LIMIT
  pub few_edges : length g.edges ≤ ARC_LIMIT
  pub nodes : AllByRecursion (IsLabelOf (is_void g.node_type)) g.nodes
  pub edges : AllByRecursion
      (IsPlainEdge (length g.nodes) (length g.edges) (is_void g.edge_type)) g.edges
  pub pairs : are_paired g.edges 0 g.edges ≡ true
