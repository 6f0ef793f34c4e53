use Rattle.std.proofs.Common.{◌≡◌, Bool, true, refl, not, if◌then◌else◌, ap, sym, subst, ◌∙◌}
use Rattle.leda_base.specs.declared.ItemName.{ItemName}
use Rattle.graph_state.specs.Names.{Has}
use Rattle.graph_state.specs.State.{shows_node, shows_edge}
use Rattle.object_store.specs.Views.{is_live}
use Rattle.console_state.specs.declared.order.Standing.TheVariants.{Hidden, Visible}
use Rattle.console_state.specs.State.{State}
use Rattle.console_state.specs.Views.{is_given, stands, standing}
use Rattle.console_state.proofs.Visible.{stands_there, stands_gone, stands_unlisted, answered_shows}
use Rattle.console_state.proofs.session.Session.standing.Goals as goal

pub returns-in-Ok : goal.returns-in-Ok
returns-in-Ok c =
    let g = c.self.inside.graph in
    let o = c.self.inside.objects in
    let k = c.in-Node.number in
    subst (λ (s : State). c.seen_if.result ≡ standing s c.args.item) c.self.view_is
    (subst (λ (x : ItemName). c.seen_if.result ≡ standing (record { graph = g; objects = o; kept = c.self.inside.kept }) x) (sym c.in-Node.is)
    (c.seen_if.ensures ∙ ap (λ (b : Bool). if not b then Visible else Hidden) c.is_hidden.ensures
    ∙ stands_there k g.nodes (shows_node g k) (is_given g.made_nodes k) c.in-Ok.ensures.item.1))

pub returns-in-Err : goal.returns-in-Err
returns-in-Err c =
    let g = c.self.inside.graph in
    let o = c.self.inside.objects in
    let k = c.in-Node.number in
    subst (λ (s : State). c.gone.result ≡ standing s c.args.item) c.self.view_is
    (subst (λ (x : ItemName). c.gone.result ≡ standing (record { graph = g; objects = o; kept = c.self.inside.kept }) x) (sym c.in-Node.is)
    (c.gone.ensures ∙ stands_gone k g.made_nodes g.nodes (shows_node g k) c.in-Err.why c.in-Err.ensures.item.0 c.in-Err.ensures.item.1))

pub returns-in-Ok-edge_item : goal.returns-in-Ok-edge_item
returns-in-Ok-edge_item c =
    let g = c.self.inside.graph in
    let o = c.self.inside.objects in
    let k = c.in-Edge.number in
    let same = c.in-Ok-edge_item.ensures.item.0 in
    let there = c.in-Ok-edge_item.ensures.item.1 in
    subst (λ (s : State). c.seen_if-in-Ok-edge_item.result ≡ standing s c.args.item) c.self.view_is
    (subst (λ (x : ItemName). c.seen_if-in-Ok-edge_item.result ≡ standing (record { graph = g; objects = o; kept = c.self.inside.kept }) x) (sym c.in-Edge.is)
    (c.seen_if-in-Ok-edge_item.ensures
    ∙ ap (λ (b : Bool). if b then Visible else Hidden) (c.is_ok.ensures.value
    ∙ answered_shows g c.in-Ok-edge_item.edge.0.serial c.source.result c.source.ensures.visible c.source.ensures.err (subst (λ e. Has e g.edges) (sym same) there) ∙ ap (shows_edge g) same)
    ∙ stands_there k g.edges (shows_edge g k) (is_given g.made_edges k) there))

pub returns-in-Err-edge_item : goal.returns-in-Err-edge_item
returns-in-Err-edge_item c =
    let g = c.self.inside.graph in
    let o = c.self.inside.objects in
    let k = c.in-Edge.number in
    subst (λ (s : State). c.gone-in-Err-edge_item.result ≡ standing s c.args.item) c.self.view_is
    (subst (λ (x : ItemName). c.gone-in-Err-edge_item.result ≡ standing (record { graph = g; objects = o; kept = c.self.inside.kept }) x) (sym c.in-Edge.is)
    (c.gone-in-Err-edge_item.ensures ∙ stands_gone k g.made_edges g.edges (shows_edge g k) c.in-Err-edge_item.why c.in-Err-edge_item.ensures.item.0 c.in-Err-edge_item.ensures.item.1))

pub returns-in-Ok-find_cell : goal.returns-in-Ok-find_cell
returns-in-Ok-find_cell c =
    let g = c.self.inside.graph in
    let o = c.self.inside.objects in
    let k = c.in-Cell.number in
    subst (λ (s : State). Visible ≡ standing s c.args.item) c.self.view_is
    (subst (λ (x : ItemName). Visible ≡ standing (record { graph = g; objects = o; kept = c.self.inside.kept }) x) (sym c.in-Cell.is)
    (subst (λ (b : Bool). Visible ≡ stands b true (is_given o.made k)) (sym (c.in-Ok-find_cell.ensures)) refl))

pub returns-in-Err-find_cell : goal.returns-in-Err-find_cell
returns-in-Err-find_cell c =
    let g = c.self.inside.graph in
    let o = c.self.inside.objects in
    let k = c.in-Cell.number in
    let out = c.in-Err-find_cell.ensures in
    subst (λ (s : State). c.gone-in-Err-find_cell.result ≡ standing s c.args.item) c.self.view_is
    (subst (λ (x : ItemName). c.gone-in-Err-find_cell.result ≡ standing (record { graph = g; objects = o; kept = c.self.inside.kept }) x) (sym c.in-Cell.is)
    (c.gone-in-Err-find_cell.ensures ∙ stands_unlisted k o.made (is_live o k) true c.in-Err-find_cell.why out.0 out.1))
