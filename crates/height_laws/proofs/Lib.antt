pub mod TelescopicJ
