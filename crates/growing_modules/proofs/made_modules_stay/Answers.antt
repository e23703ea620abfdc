use Rattle.growing_modules.proofs.Growing.{module-on}
use Rattle.growing_modules.proofs.made_modules_stay.Goals as goal

pub returns : goal.returns
returns c flat more means implied files outsides source units symbols last asked extends made =
    module-on flat more extends
    (record {
      expressions = λ w setting x i asked. c.trees_stay.ensures.expressions flat more w setting x i asked extends;
      definitions = λ w setting x lead roots asked. c.trees_stay.ensures.definitions flat more w setting x lead roots asked extends;
      rights = λ w setting l xs rights roots asked. c.trees_stay.ensures.rights flat more w setting l xs rights roots asked extends;
      instances = λ w setting outer count guards l rights j asked. c.trees_stay.ensures.instances flat more w setting outer count guards l rights j asked extends;
    })
    means implied files outsides source units symbols last asked made
