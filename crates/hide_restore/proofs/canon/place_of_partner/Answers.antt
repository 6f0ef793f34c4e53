-- A reversal that is visible is one of the edges.
use Rattle.std.proofs.Common.{◌≡◌, Some, option_map, sym, ap, subst, ◌∙◌}
use Rattle.graph_state.specs.declared.item.EdgeItem.{EdgeItem}
use Rattle.graph_state.specs.Names.{Has}
use Rattle.graph_state.specs.Reversals.{visible_reversal}
use Rattle.hide_restore.specs.Net.{place_of}
use Rattle.hide_restore.proofs.Ordered.{placed, partner_ordered}
use Rattle.hide_restore.proofs.canon.place_of_partner.Goals as goal

pub returns-in-Some : goal.returns-in-Some
returns-in-Some c =
    let s = c.args.g.now in
    let e = c.args.e.0.serial in
    let g = c.in-Some.f.0.serial in
    let is : visible_reversal s e ≡ Some g = sym c.in-Ok.ensures.partner ∙ ap (option_map (λ (e : EdgeItem). e.0.serial)) c.in-Some.is in
    let there = subst (Has g) (sym c.requires.edges) (partner_ordered s c.requires.formed e g is) in
    placed c.place.result g c.args.edges.now c.place.ensures there ∙ ap (option_map (λ f. place_of f c.args.edges.now)) (sym is)
