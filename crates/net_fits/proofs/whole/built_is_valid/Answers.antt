use Rattle.std.proofs.Common.{◌≡◌, ◌≤◌, length, ◌∙◌, arith}
use Rattle.net_wires.proofs.Ready.{length_links}
use Rattle.net_gather.specs.Gather.{gathered}
use Rattle.net_gather.specs.Sizes.{size_faults}
use Rattle.net_module.specs.Assembly.{module_of}
use Rattle.net_fits.proofs.Shapes.{front_none}
use Rattle.net_fits.proofs.Sizes.{nets_few}
use Rattle.net_fits.proofs.Validity.{few_silent, lists_counted}
use Rattle.net_fits.proofs.whole.built_is_valid.Goals as goal

pub returns : goal.returns
unfolding module_of
returns c = λ lib modules x m places count roots starts rams sound s are among come besides.
    let g = gathered x m.items in
    let w = sound.written in
    let nets = c.solved_cells.ensures x m places count s in
    let long : length places ≡ g.places = s.resolves.numbered.long ∙ s.resolves.long ∙ length_links g.places g.pairs in
    let few = c.places_few.ensures x m.items sound.faultless in
    let most : count ≤ 4194304 = nets_few places count 4194304 (c.resolved_in_order.ensures _ places count s.resolves) (omega (arith, long, few)) in
    record {
      name = (c.head_fits.ensures m w).0;
      attrs = (c.head_fits.ensures m w).1;
      wires = c.wires_fit.ensures m places w (c.solved_inputs.ensures x m places count s);
      declared = c.declared_fit.ensures m 0 0 w (front_none (size_faults 0 0 m.items) _ sound.faultless);
      parts = c.parts_fit.ensures modules x m places roots sound nets;
      mems = λ i y e. absurd cc;
      combs = c.combs_fit.ensures modules x m places sound nets;
      regs = c.regs_fit.ensures modules x m places roots starts sound nets;
      rams = besides.rams;
      reads_agree = besides.reads_agree;
      carried = c.carried_fit.ensures modules x m places sound nets;
      wire_names = c.wire_names_apart.ensures m places w;
      mem_names = λ i j y e f. absurd cc;
      cell_names = c.cell_names_apart.ensures modules x m places count roots starts rams sound are;
      nets = c.nets_below.ensures x m places count roots starts rams s are;
      driven = c.solved_drivers.ensures modules x m places count roots starts rams sound s are;
      driven_nets = c.driven_nets_below.ensures x m places count roots starts rams s are;
      inouts = besides.inouts;
      clocks = c.clocks_are_inputs.ensures x m places count roots starts rams among come;
      net_count = omega (arith, most);
      silent = few_silent x m places count roots starts rams w are besides.slots;
      counted = lists_counted x m places count roots starts rams w are;
    }
