mod ExactLeaves
mod LowLeaves
mod MadeCalls
mod SideCalls
